use Rattle.hp_map.specs.Marks.{AreMarked, marks_below, on_page}
use Rattle.hp_map.proofs.marks.mark_owner.Given as goal

abbrev pub invariant-loop-number : goal.invariant-loop-number
invariant-loop-number l =
    AreMarked (marks_below (on_page l.machine.state.pages l.owner) l.number) l.initial.places.items
    l.places.items
