use Rattle.std.proofs.Common.{ap}
use Rattle.hp_units.specs.Memory.{kernel_order}
use Rattle.hp_text.specs.State.{kernel_line}
use Rattle.hp_text.proofs.Texts.{texts_none, texts_more}
use Rattle.hp_text.proofs.state.write_kernel_blocks.Goals as goal

pub loop-number-init : goal.loop-number-init
loop-number-init c = texts_none (λ frame. kernel_line frame (kernel_order c.args.image.now.memory frame)) _

pub loop-number-preserved : goal.loop-number-preserved
loop-number-preserved c =
    texts_more (λ frame. kernel_line frame (kernel_order c.args.image.now.memory frame)) c.loop-number.number
    _ _ _ _ c.loop-number.invariant c.in_ok-write_kernel_block.ensures
    (ap (kernel_line c.loop-number.number) c.kernel_at.ensures)
