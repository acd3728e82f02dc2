use Rattle.std.proofs.Common.{◌∙◌, ap, arith}
use Rattle.hp_pages.specs.Pages.{pages_of}
use Rattle.hp_memory.proofs.Pages.{contents-count, same_tables}
use Rattle.hp_memory.proofs.Tables.{copied-all}
use Rattle.hp_memory.proofs.pictures.pages.put_pages.Goals as goal

pub put_row-requires-clause-table_size : goal.put_row-requires-clause-table_size
put_row-requires-clause-table_size c =
    omega (
      arith,
      c.loop-number-test.true,
      c.owners-number-end.ensures.is,
      ap (λ l. l.owners)
          (c.layout.ensures ∙ c.requires.layout),
      c.loop-number.invariant.table.size,
      c.requires.pages.owners,
    )

pub put_row-requires-clause-contents_size : goal.put_row-requires-clause-contents_size
put_row-requires-clause-contents_size c =
    let count = contents-count c.args.pages.now.layout c.args.pages.now.pages in
    omega (
      arith,
      c.loop-number-test.true,
      c.owners-number-end.ensures.is,
      ap (λ l. l.owners) (c.layout.ensures ∙ c.requires.layout),
      c.loop-number.invariant.contents.size,
      count,
      c.requires.pages.owners,
    )

pub put_row-requires-clause-table : goal.put_row-requires-clause-table
put_row-requires-clause-table c =
    c.loop-number.invariant.table.later c.loop-number.number (omega arith)
    (omega (
      arith,
      c.loop-number-test.true,
      c.owners-number-end.ensures.is,
      ap (λ l. l.owners) (c.layout.ensures ∙ c.requires.layout),
      c.requires.pages.owners,
    ))

pub put_row-requires-clause-contents : goal.put_row-requires-clause-contents
put_row-requires-clause-contents c =
    let count = contents-count c.args.pages.now.layout c.args.pages.now.pages in
    c.loop-number.invariant.contents.later c.loop-number.number (omega arith)
    (omega (
      arith,
      c.loop-number-test.true,
      c.owners-number-end.ensures.is,
      ap (λ l. l.owners) (c.layout.ensures ∙ c.requires.layout),
      count,
      c.requires.pages.owners,
    ))

pub returns : goal.returns
returns c =
    let wanted = pages_of c.args.pages.now.layout c.args.pages.now.pages in
    let now = c.loop-number.image.memory.pages in
    let count = contents-count c.args.pages.now.layout c.args.pages.now.pages in
    rw (
      c.loop-number.invariant.same,
      same_tables now wanted (copied-all (omega (
        arith,
        c.loop-number-test.false,
        c.owners-number-end.ensures.is,
        ap (λ l. l.owners)
            (c.layout.ensures ∙ c.requires.layout),
        c.requires.pages.owners,
      )) c.loop-number.invariant.table)
          (copied-all (omega (
            arith,
            c.loop-number-test.false,
            c.owners-number-end.ensures.is,
            ap (λ l. l.owners)
                (c.layout.ensures ∙ c.requires.layout),
            count,
            c.requires.pages.owners,
          ))
          c.loop-number.invariant.contents),
    )
