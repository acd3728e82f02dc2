-- They are the same so far.
use Rattle.std.proofs.Common.{◌≡◌, ◌≤◌, drop, length}
use Rattle.std.specs.Cmp.Lexicographic.{slice_cmp}
use Rattle.std.specs.Ordering.{nat_cmp}
use Rattle.hp_parts.proofs.earlier.order_of.Given as goal

abbrev pub invariant-loop-place : goal.invariant-loop-place
invariant-loop-place l = record {
  within : l.place ≤ length l.other;
  same : slice_cmp nat_cmp l.schedule l.other
      ≡ slice_cmp nat_cmp (drop l.place l.schedule) (drop l.place l.other);
}
