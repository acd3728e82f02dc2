-- No script so far holds a plan.
use Rattle.std.proofs.Common.{◌≡◌, true, take}
use Rattle.std.specs.List.{list_all}
use Rattle.hp_schedules.specs.Interleavings.{holds_no_plan}
use Rattle.hp_schedules.proofs.multinomials.hold_no_plan.Given as goal

abbrev pub invariant-loop-script : goal.invariant-loop-script
invariant-loop-script l = list_all holds_no_plan (take l.script-index l.scripts) ≡ true
