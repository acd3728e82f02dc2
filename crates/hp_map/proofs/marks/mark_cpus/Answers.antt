use Rattle.hp_map.specs.Marks.{on_cpu}
use Rattle.hp_map.proofs.MarkLemmas.{marks_none, marks_more}
use Rattle.hp_map.proofs.marks.mark_cpus.Goals as goal

pub loop-number-init : goal.loop-number-init
loop-number-init c = marks_none (on_cpu c.args.machine.now.state.free) _

pub loop-number-preserved : goal.loop-number-preserved
loop-number-preserved c =
    marks_more (on_cpu c.args.machine.now.state.free) c.loop-number.number _ _ _ c.loop-number.invariant
    c.in_ok-mark_cpu.ensures
