use Rattle.std.proofs.Common.{◌≡◌, take}
use Rattle.hp_schedules.specs.Schedules.{schedule_of}
use Rattle.hp_parts.proofs.ends.follow.Given as goal

abbrev pub invariant-loop-cpu : goal.invariant-loop-cpu
invariant-loop-cpu l =
    (l.path.setting ≡ l.fn.path.setting) × (schedule_of l.path.news ≡ take l.cpu-index l.schedule)
