-- The greatest of the scripts so far.
use Rattle.std.proofs.Common.{◌≡◌, take}
use Rattle.hp_schedules.specs.Scripts.{greatest_named}
use Rattle.hp_schedules.proofs.scripts.greatest_named.Given as goal

abbrev pub invariant-loop-script : goal.invariant-loop-script
invariant-loop-script l = l.greatest ≡ greatest_named (take l.script-index l.scripts)
