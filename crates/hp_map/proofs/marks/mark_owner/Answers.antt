use Rattle.std.proofs.Common.{ap}
use Rattle.hp_map.specs.Marks.{on_entry, on_page}
use Rattle.hp_map.proofs.MarkLemmas.{marks_none, marks_more_as}
use Rattle.hp_map.proofs.marks.mark_owner.Goals as goal

pub loop-number-init : goal.loop-number-init
loop-number-init c = marks_none (on_page c.args.machine.now.state.pages c.args.owner) _

pub loop-number-preserved : goal.loop-number-preserved
loop-number-preserved c =
    let is = ap (on_entry c.args.owner) c.frame_at.ensures in
    marks_more_as (on_page c.args.machine.now.state.pages c.args.owner) c.loop-number.number
    (on_entry c.args.owner c.frame_at.result) _ _ _ is c.loop-number.invariant c.mark_page.ensures
