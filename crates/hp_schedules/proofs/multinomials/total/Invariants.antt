-- The sum of the lengths so far.
use Rattle.std.proofs.Common.{◌≡◌, ◌<◌, ◌^◌, take}
use Rattle.hp_schedules.specs.Multinomials.{sum}
use Rattle.hp_schedules.proofs.multinomials.total.Given as goal

abbrev pub invariant-loop-length : goal.invariant-loop-length
invariant-loop-length l = record {
  total : l.total ≡ sum (take l.length-index l.lengths);
  fits : l.total < 2 ^ 64;
}
