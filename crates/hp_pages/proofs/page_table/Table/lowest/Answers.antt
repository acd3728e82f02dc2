use Rattle.std.proofs.Common.{length}
use Rattle.hp_pages.specs.Places.{TableValue}
use Rattle.hp_pages.proofs.Tables.{lowest_of}
use Rattle.hp_pages.proofs.page_table.Table.lowest.Goals as goal

pub returns : goal.returns
returns c =
    let t : TableValue =
    record {
      frames = length c.self.inside.sums;
      pages = c.self.inside.pages;
      rows = c.self.inside.rows.items;
    } in
    let within = rw (← c.self.view_is) at c.requires in
    rw (← c.self.view_is) (lowest_of t c.self.inside.sums c.args.first c.args.count c.lowest.result
    c.self.invariant within c.lowest.ensures)
