use Rattle.std.proofs.Common.{◌+◌}
use Rattle.hp_map.specs.Marks.{AreMarked, at_frame, marks_below}
use Rattle.hp_map.proofs.marks.mark_frames.Given as goal

abbrev pub invariant-loop-offset : goal.invariant-loop-offset
invariant-loop-offset l =
    AreMarked (marks_below (λ offset. at_frame (l.first + offset) l.place) l.offset) l.initial.places.items
    l.places.items
