-- The journal is that of the records so far.
use Rattle.std.proofs.Common.{take}
use Rattle.hp_machine.specs.Replaying.{IsCourseOf}
use Rattle.hp_machine.proofs.replaying.followed.Given as goal

abbrev pub invariant-loop-place : goal.invariant-loop-place
invariant-loop-place l = record {
  course : IsCourseOf l.initial.journal.layout l.initial.journal.base l.initial.journal.before
      (take l.place l.records) l.journal;
}
