use Rattle.std.proofs.Common.{None, ◌∙◌, ap, arith}
use Rattle.hp_units.specs.Arithmetic.{frame_count}
use Rattle.hp_memory.proofs.Tables.{copied-all, copied-none}
use Rattle.hp_memory.proofs.loads.kernel.kernel_of.Goals as goal

pub loop-number-init : goal.loop-number-init
loop-number-init c = record {
  blocks =
      copied-none None None c.frames.result c.args.image.now.memory.kernel c.in_ok-kernel.kernel
      c.in_ok-kernel.ensures
      (omega (arith, c.requires.size, c.frames.ensures.is, ap (λ l. frame_count l) c.layout.ensures));
}

pub load_block-requires-clause-size : goal.load_block-requires-clause-size
load_block-requires-clause-size c = c.loop-number.invariant.blocks.size ∙ c.requires.size

pub load_block-requires-clause-frame : goal.load_block-requires-clause-frame
load_block-requires-clause-frame c =
    omega (
      arith,
      c.loop-number-test.true,
      c.frames-number-end.ensures.is,
      ap (λ l. frame_count l) c.layout-2.ensures,
    )

pub returns : goal.returns
returns c =
    copied-all
    (omega (
      arith,
      c.loop-number-test.false,
      c.frames-number-end.ensures.is,
      ap (λ l. frame_count l) c.layout-2.ensures,
      c.requires.size,
    )) c.loop-number.invariant.blocks
