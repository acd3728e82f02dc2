-- The coefficient of the lengths so far, and their sum.
use Rattle.std.proofs.Common.{◌≡◌, take}
use Rattle.hp_schedules.specs.Multinomials.{IsMultinomial, sum}
use Rattle.hp_schedules.proofs.multinomials.coefficient.Given as goal

abbrev pub invariant-loop-length : goal.invariant-loop-length
invariant-loop-length l = record {
  total : l.total ≡ sum (take l.length-index l.lengths);
  count : IsMultinomial (take l.length-index l.lengths) l.count;
}
