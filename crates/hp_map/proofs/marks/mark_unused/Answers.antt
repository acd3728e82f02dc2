use Rattle.hp_map.specs.Marks.{on_unused}
use Rattle.hp_map.proofs.MarkLemmas.{marks_none, marks_more}
use Rattle.hp_map.proofs.marks.mark_unused.Goals as goal

pub loop-number-init : goal.loop-number-init
loop-number-init c = marks_none (on_unused c.args.machine.now.layout c.args.machine.now.state) _

pub loop-number-preserved : goal.loop-number-preserved
loop-number-preserved c =
    marks_more (on_unused c.args.machine.now.layout c.args.machine.now.state) c.loop-number.number _ _ _
    c.loop-number.invariant c.mark_pageblock.ensures
