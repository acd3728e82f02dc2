-- The number so far is that of the records so far.
use Rattle.std.proofs.Common.{◌≡◌, ◌<◌, take}
use Rattle.hp_schedules.specs.Parts.{part_number}
use Rattle.hp_schedules.specs.Schedules.{schedule_of}
use Rattle.hp_schedules.proofs.parts.number_of.Given as goal

abbrev pub invariant-loop-record : goal.invariant-loop-record
invariant-loop-record l = record {
  so_far : l.number ≡ part_number l.processors l.of (schedule_of (take l.record-index l.first));
  below : l.number < l.of;
}
