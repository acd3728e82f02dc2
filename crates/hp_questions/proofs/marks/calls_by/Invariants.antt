-- The replies that the records so far tell.
use Rattle.std.proofs.Common.{◌≡◌, ◌≤◌, length, take}
use Rattle.hp_schedules.specs.Outcomes.{replies_to}
use Rattle.hp_questions.proofs.marks.calls_by.Given as goal

abbrev pub invariant-loop-record : goal.invariant-loop-record
invariant-loop-record l = record {
  counted : l.calls ≡ length (replies_to l.cpu (take l.record-index l.records));
  few : l.calls ≤ l.record-index;
}
