use Rattle.std.specs.Prelude.{◌≡◌, ◌++◌, List, take, vec_len}
use Rattle.hp_units.specs.declared.replies.Record.{Record}
use Rattle.hp_shared.specs.Marks.{AreMarks, AreStrays}
use Rattle.hp_shared.proofs.comparing.mark_records.Given as goal

abbrev pub invariant-loop-at : goal.invariant-loop-at
invariant-loop-at g l =
    (vec_len l.marks ≡ vec_len l.fn.marks) × ((history : List Record) → AreMarks history l.seats.items
    l.fn.marks.items → AreMarks (history ++ take l.at l.records) l.seats.items l.marks.items)
    × AreStrays (take l.at l.records) l.seats.items l.lowest
