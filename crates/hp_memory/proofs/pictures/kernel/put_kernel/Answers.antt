use Rattle.std.proofs.Common.{◌∙◌, ap, arith}
use Rattle.hp_units.specs.Arithmetic.{frame_count}
use Rattle.hp_memory.proofs.Conversions.{with_kernel}
use Rattle.hp_memory.proofs.Tables.{copied-all}
use Rattle.hp_memory.proofs.pictures.kernel.put_kernel.Goals as goal

pub returns : goal.returns
returns c =
    c.loop-number.invariant.same
    ∙ ap (with_kernel c.args.image.now)
    (copied-all
    (omega (
      arith,
      c.loop-number-test.false,
      c.frames-number-end.ensures.is,
      ap (λ l. frame_count l) c.layout.ensures,
      c.requires.size,
    )) c.loop-number.invariant.blocks)
