-- No record so far tells a reply that matches.
use Rattle.std.proofs.Common.{take}
use Rattle.hp_schedules.specs.Outcomes.{replies_to}
use Rattle.hp_questions.specs.Wanted.{HasReply}
use Rattle.hp_questions.proofs.marks.is_told.Given as goal

abbrev pub invariant-loop-record : goal.invariant-loop-record
invariant-loop-record l =
    record { none : HasReply l.reply (replies_to l.cpu (take l.record-index l.records)) → ⊥ }
