use Rattle.hp_map.specs.Marks.{AreMarked, marks_below, on_cpu}
use Rattle.hp_map.proofs.marks.mark_cpus.Given as goal

abbrev pub invariant-loop-number : goal.invariant-loop-number
invariant-loop-number l =
    AreMarked (marks_below (on_cpu l.machine.state.free) l.number) l.initial.places.items l.places.items
