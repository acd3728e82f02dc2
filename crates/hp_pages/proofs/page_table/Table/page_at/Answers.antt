use Rattle.std.proofs.Common.{length, sym, ◌∙◌, arith}
use Rattle.hp_pages.specs.Places.{TableValue}
use Rattle.hp_pages.proofs.Tables.{page_none, page_told}
use Rattle.hp_pages.proofs.page_table.Table.page_at.Goals as goal

pub returns-then-sum-eq0-clause-page : goal.returns-then-sum-eq0-clause-page
returns-then-sum-eq0-clause-page c =
    let t : TableValue =
    record {
      frames = length c.self.inside.sums;
      pages = c.self.inside.pages;
      rows = c.self.inside.rows.items;
    } in
    let in_frames = rw (← c.self.view_is) at c.requires.frame in
    rw (← c.self.view_is) (page_none t c.self.inside.sums c.args.frame c.self.invariant in_frames
    (sym c.at-sum.ensures ∙ c.if-sum-eq0.true))

pub overflow_cast-result : goal.overflow_cast-result
overflow_cast-result c =
    let t : TableValue =
    record {
      frames = length c.self.inside.sums;
      pages = c.self.inside.pages;
      rows = c.self.inside.rows.items;
    } in
    let in_frames = rw (← c.self.view_is) at c.requires.frame in
    let once = rw (← c.self.view_is) at c.requires.once in
    let told =
    page_told t c.self.inside.sums c.args.frame c.at-sum.result c.self.invariant in_frames once
    c.at-sum.ensures c.if-sum-eq0.false in
    omega (arith, told.1)

pub returns-clause-page : goal.returns-clause-page
returns-clause-page c =
    let t : TableValue =
    record {
      frames = length c.self.inside.sums;
      pages = c.self.inside.pages;
      rows = c.self.inside.rows.items;
    } in
    let in_frames = rw (← c.self.view_is) at c.requires.frame in
    let once = rw (← c.self.view_is) at c.requires.once in
    let told =
    page_told t c.self.inside.sums c.args.frame c.at-sum.result c.self.invariant in_frames once
    c.at-sum.ensures c.if-sum-eq0.false in
    rw (← c.self.view_is) told.0
