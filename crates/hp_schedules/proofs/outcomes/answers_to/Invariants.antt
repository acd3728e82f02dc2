-- The replies of the records so far.
use Rattle.std.proofs.Common.{◌≡◌, take}
use Rattle.hp_schedules.specs.Outcomes.{replies_to}
use Rattle.hp_schedules.proofs.outcomes.answers_to.Given as goal

abbrev pub invariant-loop-record : goal.invariant-loop-record
invariant-loop-record l = l.replies.items ≡ replies_to l.cpu (take l.record-index l.records)
