-- Each line so far is one call.
use Rattle.std.proofs.Common.{◌≡◌, true, take}
use Rattle.std.specs.List.{list_all}
use Rattle.hp_schedules.specs.Interleavings.{is_one_call}
use Rattle.hp_schedules.proofs.scripts.CallScript.holds_no_plan.Given as goal

abbrev pub invariant-loop-line : goal.invariant-loop-line
invariant-loop-line l = list_all is_one_call (take l.line-index l.line-items) ≡ true
