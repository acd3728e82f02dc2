-- With the calls from here on it is the whole number.
use Rattle.std.proofs.Common.{◌≡◌, ◌+◌, ◌≤◌, drop, length}
use Rattle.hp_units.specs.Receipts.{receipts_of}
use Rattle.hp_schedules.specs.Scripts.{frames_of}
use Rattle.hp_schedules.proofs.results.frame_count.Given as goal

abbrev pub invariant-loop-call : goal.invariant-loop-call
invariant-loop-call l =
    (l.count + length (frames_of (receipts_of l.cpu (drop l.call-index l.news)))
    ≡ length (frames_of (receipts_of l.cpu l.news))) × (l.count ≤ l.call-index)
