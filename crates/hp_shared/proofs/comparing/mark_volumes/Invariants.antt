use Rattle.std.specs.Prelude.{◌≡◌, take, vec_len}
use Rattle.hp_shared.specs.Marks.{AreMarks, AreStrays}
use Rattle.hp_shared.specs.Volumes.{sealed_records}
use Rattle.hp_shared.proofs.comparing.mark_volumes.Given as goal

abbrev pub invariant-loop-at : goal.invariant-loop-at
invariant-loop-at g l =
    (vec_len l.marks ≡ vec_len l.fn.marks)
    × AreMarks (sealed_records (take l.at l.volumes.items)) l.seats.items l.marks.items
    × AreStrays (sealed_records (take l.at l.volumes.items)) l.seats.items l.lowest
