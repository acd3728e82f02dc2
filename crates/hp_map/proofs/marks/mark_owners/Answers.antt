use Rattle.hp_map.specs.Marks.{on_owner}
use Rattle.hp_map.proofs.MarkLemmas.{marks_none, marks_more}
use Rattle.hp_map.proofs.marks.mark_owners.Goals as goal

pub loop-number-init : goal.loop-number-init
loop-number-init c = marks_none (on_owner c.args.machine.now.layout c.args.machine.now.state.pages) _

pub loop-number-preserved : goal.loop-number-preserved
loop-number-preserved c =
    marks_more (on_owner c.args.machine.now.layout c.args.machine.now.state.pages) c.loop-number.number _ _ _
    c.loop-number.invariant c.mark_owner.ensures
