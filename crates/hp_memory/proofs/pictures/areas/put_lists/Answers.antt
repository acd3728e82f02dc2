use Rattle.std.proofs.Common.{◌∙◌, ap, arith}
use Rattle.hp_memory.proofs.Tables.{copied-all}
use Rattle.hp_memory.proofs.pictures.areas.put_lists.Goals as goal

pub returns : goal.returns
returns c =
    rw (
      c.loop-number.invariant.same,
      copied-all (omega (
        arith,
        c.loop-number-test.false,
        c.order.ensures.is,
        ap (λ l. l.order) (c.layout.ensures ∙ c.requires.layout),
        c.requires.within.lists,
      ))
          c.loop-number.invariant.lists,
    )
