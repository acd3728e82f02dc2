-- Each script so far may be merged.
use Rattle.std.proofs.Common.{◌≡◌, true, take}
use Rattle.std.specs.List.{list_all}
use Rattle.hp_schedules.specs.Alike.{is_mergeable}
use Rattle.hp_schedules.proofs.scripts.are_mergeable.Given as goal

abbrev pub invariant-loop-script : goal.invariant-loop-script
invariant-loop-script l = list_all is_mergeable (take l.script-index l.scripts) ≡ true
