use Rattle.std.proofs.Common.{◌∙◌, ap, arith}
use Rattle.hp_memory.proofs.Tables.{copied-all}
use Rattle.hp_memory.proofs.pictures.rows.put_rows.Goals as goal

pub returns : goal.returns
returns c =
    rw (
      c.loop-number.invariant.same,
      copied-all (omega (
        arith,
        c.loop-number-test.false,
        c.blocks-number-end.ensures.is,
        ap (λ l. l.blocks) (c.layout.ensures ∙ c.requires.layout),
        c.requires.rows.rows,
      )) c.loop-number.invariant.rows,
    )
