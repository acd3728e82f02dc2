-- The greatest of the lines so far.
use Rattle.std.proofs.Common.{◌≡◌, take}
use Rattle.hp_schedules.specs.Scripts.{greatest_in}
use Rattle.hp_schedules.proofs.scripts.CallScript.greatest_named.Given as goal

abbrev pub invariant-loop-line : goal.invariant-loop-line
invariant-loop-line l = l.greatest ≡ greatest_in l.fn.least (take l.line-index l.line-items)
