use Rattle.hp_map.specs.Marks.{AreMarked, marks_below, on_unused}
use Rattle.hp_map.proofs.marks.mark_unused.Given as goal

abbrev pub invariant-loop-number : goal.invariant-loop-number
invariant-loop-number l =
    AreMarked (marks_below (on_unused l.machine.layout l.machine.state) l.number) l.initial.places.items
    l.places.items
