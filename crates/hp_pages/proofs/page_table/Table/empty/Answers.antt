use Rattle.hp_pages.proofs.Tables.{are_sums-empty}
use Rattle.hp_pages.proofs.page_table.Table.empty.Goals as goal

pub invariant_of-result : goal.invariant_of-result
invariant_of-result c =
    are_sums-empty c.in_ok-sums.sums c.args.owners c.args.pages c.in_ok-rows.rows.items c.args.frames
    c.in_ok-sums.ensures c.in_ok-rows.ensures
    c.requires.frames c.requires.some_pages c.requires.pages c.requires.owners
