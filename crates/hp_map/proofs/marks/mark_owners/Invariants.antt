use Rattle.hp_map.specs.Marks.{AreMarked, marks_below, on_owner}
use Rattle.hp_map.proofs.marks.mark_owners.Given as goal

abbrev pub invariant-loop-number : goal.invariant-loop-number
invariant-loop-number l =
    AreMarked (marks_below (on_owner l.machine.layout l.machine.state.pages) l.number) l.initial.places.items
    l.places.items
