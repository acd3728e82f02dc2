use Rattle.std.proofs.Common.{take}
use Rattle.hp_map.specs.Marks.{AreMarked, on_list}
use Rattle.hp_map.proofs.marks.mark_list.Given as goal

abbrev pub invariant-loop-frame : goal.invariant-loop-frame
invariant-loop-frame l =
    AreMarked (on_list (take l.frame-index l.frames) l.place) l.initial.places.items l.places.items
