-- The calls so far are those of the front of the schedule.
use Rattle.std.proofs.Common.{◌≡◌, take}
use Rattle.hp_schedules.specs.Schedules.{schedule_of}
use Rattle.hp_explain.proofs.standing.play_along.Given as goal

abbrev pub invariant-loop-cpu : goal.invariant-loop-cpu
invariant-loop-cpu l = record {
  setting : l.path.setting ≡ l.initial.path.setting;
  front : schedule_of l.path.news ≡ take l.cpu-index l.schedule;
}
