-- No record so far tells a processor below the number a reply that matches.
use Rattle.std.proofs.Common.{take}
use Rattle.hp_questions.proofs.Marking.{NoneBelow}
use Rattle.hp_questions.proofs.marks.is_told_to_any.Given as goal

abbrev pub invariant-loop-record : goal.invariant-loop-record
invariant-loop-record l =
    record { none : NoneBelow l.reply l.processors (take l.record-index l.records) }
