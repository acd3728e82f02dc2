-- The processors of the records so far, and room for those of all.
use Rattle.std.proofs.Common.{◌≡◌, length, take}
use Rattle.std.specs.Prelude.{vec_capacity}
use Rattle.hp_schedules.specs.Schedules.{schedule_of}
use Rattle.hp_schedules.proofs.tally.schedule_of.Given as goal

abbrev pub invariant-loop-record : goal.invariant-loop-record
invariant-loop-record l = record {
  told : l.schedule.items ≡ schedule_of (take l.record-index l.records);
  room : vec_capacity l.schedule ≡ length l.records;
}
