-- Each line so far may be merged.
use Rattle.std.proofs.Common.{◌≡◌, true, take}
use Rattle.std.specs.List.{list_all}
use Rattle.hp_schedules.specs.Alike.{is_mergeable_line}
use Rattle.hp_schedules.proofs.scripts.CallScript.is_mergeable.Given as goal

abbrev pub invariant-loop-line : goal.invariant-loop-line
invariant-loop-line l = list_all is_mergeable_line (take l.line-index l.line-items) ≡ true
