use Rattle.std.proofs.Common.{Bool}
use Rattle.hp_check.specs.Adds.{Adds, IsShape, lacks}
use Rattle.hp_check.proofs.shape.push_unknown.Given as goal

abbrev pub invariant-loop-name : goal.invariant-loop-name
invariant-loop-name l = (fine : Bool) × Adds IsShape (lacks fine) l.fn.found.items l.found.items
