-- With those of the lines from here on they are all numbers.
use Rattle.std.proofs.Common.{◌≡◌, ◌++◌, drop}
use Rattle.std.specs.Prelude.{flat_map}
use Rattle.hp_units.specs.Receipts.{receipts_of}
use Rattle.hp_schedules.specs.Cursors.{frames_ahead, frames_named}
use Rattle.hp_schedules.specs.Scripts.{frames_of}
use Rattle.hp_schedules.proofs.cursors.Cursor.push_frames.Given as goal

abbrev pub invariant-loop-place : goal.invariant-loop-place
invariant-loop-place l =
    l.numbers.items ++ flat_map (frames_named (frames_of (receipts_of l.cpu l.news))) (drop l.place l.lines)
    ≡ l.fn.numbers.items ++ frames_ahead l.self l.lines (receipts_of l.cpu l.news)
