-- The replies that the records so far tell, and how many are still to come before the one.
use Rattle.std.proofs.Common.{◌≡◌, ◌+◌, length, take}
use Rattle.hp_schedules.specs.Outcomes.{replies_to}
use Rattle.hp_questions.proofs.marks.reply_at.Given as goal

abbrev pub invariant-loop-record : goal.invariant-loop-record
invariant-loop-record l = l.left + length (replies_to l.cpu (take l.record-index l.records)) ≡ l.earlier
