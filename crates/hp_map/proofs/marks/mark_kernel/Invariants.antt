use Rattle.hp_map.specs.Marks.{AreMarked, marks_below, on_kernel}
use Rattle.hp_map.proofs.marks.mark_kernel.Given as goal

abbrev pub invariant-loop-number : goal.invariant-loop-number
invariant-loop-number l =
    AreMarked (marks_below (on_kernel l.machine.state) l.number) l.initial.places.items l.places.items
