-- The one that is left to find is among the records from here on.
use Rattle.std.proofs.Common.{◌≡◌, drop, get_or}
use Rattle.hp_units.specs.Receipts.{receipts_of}
use Rattle.hp_schedules.specs.Scripts.{frames_of, no_frame}
use Rattle.hp_schedules.proofs.results.nth_frame.Given as goal

abbrev pub invariant-loop-call : goal.invariant-loop-call
invariant-loop-call l =
    get_or (frames_of (receipts_of l.cpu l.news)) l.nth no_frame
    ≡ get_or (frames_of (receipts_of l.cpu (drop l.call-index l.news))) l.left no_frame
