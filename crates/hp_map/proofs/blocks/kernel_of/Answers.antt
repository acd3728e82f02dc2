use Rattle.std.proofs.Common.{◌≡◌, [], refl}
use Rattle.hp_map.specs.Blocks.{kernel_at, kernel_frame}
use Rattle.hp_map.proofs.Texts.{items_more}
use Rattle.hp_map.proofs.blocks.kernel_of.Goals as goal

pub loop-number-preserved : goal.loop-number-preserved
loop-number-preserved c =
    let layout = c.args.machine.now.layout in
    let memory = c.args.machine.now.state in
    let piece : kernel_at c.cell_at.result c.kernel_at-order.result
    ≡ kernel_frame layout memory c.args.block c.loop-number.number =
    rw (
      c.cell_at.ensures,
      c.kernel_at-order.ensures,
      c.first_of-first.ensures.is,
      c.layout-layout.ensures,
    ) refl in
    items_more (kernel_frame layout memory c.args.block) c.loop-number.number [] _ _ _
    c.loop-number.invariant c.in_ok-add_kernel.ensures piece
