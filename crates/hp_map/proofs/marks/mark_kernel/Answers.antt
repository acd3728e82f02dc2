use Rattle.std.proofs.Common.{ap}
use Rattle.hp_map.specs.Marks.{on_block, on_kernel}
use Rattle.hp_map.proofs.PlacesTogether.{block_within}
use Rattle.hp_map.proofs.MarkLemmas.{marks_none, marks_more_as}
use Rattle.hp_map.proofs.marks.mark_kernel.Goals as goal

pub loop-number-init : goal.loop-number-init
loop-number-init c = marks_none (on_kernel c.args.machine.now.state) _

pub loop-number-preserved : goal.loop-number-preserved
loop-number-preserved c =
    let is = ap (on_block c.loop-number.number) c.kernel_at.ensures in
    marks_more_as (on_kernel c.args.machine.now.state) c.loop-number.number
    (on_block c.loop-number.number c.kernel_at.result) _ _ _ is c.loop-number.invariant c.mark_block.ensures

pub mark_block-requires : goal.mark_block-requires
mark_block-requires c =
    block_within c.args.machine.now.layout c.args.machine.now.state c.loop-number.number _ c.requires.limits
    c.requires.placed c.kernel_at.ensures
