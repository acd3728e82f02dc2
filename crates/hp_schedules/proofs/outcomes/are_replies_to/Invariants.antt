-- The replies so far are those of the records so far.
use Rattle.std.proofs.Common.{◌≡◌, ◌≤◌, length, take}
use Rattle.hp_schedules.specs.Outcomes.{replies_to}
use Rattle.hp_schedules.proofs.outcomes.are_replies_to.Given as goal

abbrev pub invariant-loop-record : goal.invariant-loop-record
invariant-loop-record l =
    (take l.compared l.replies ≡ replies_to l.cpu (take l.record-index l.records))
    × (l.compared ≤ length l.replies)
