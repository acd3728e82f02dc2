use Rattle.std.proofs.Common.{◌∙◌, ap, arith}
use Rattle.hp_memory.proofs.Tables.{copied-all}
use Rattle.hp_memory.proofs.pictures.processors.put_cpus.Goals as goal

pub returns : goal.returns
returns c =
    rw (
      c.loop-number.invariant.same,
      copied-all (omega (
        arith,
        c.loop-number-test.false,
        c.cpus-number-end.ensures.is,
        ap (λ l. l.cpus) (c.layout.ensures ∙ c.requires.layout),
        c.requires.size,
      ))
          c.loop-number.invariant.lists,
    )
