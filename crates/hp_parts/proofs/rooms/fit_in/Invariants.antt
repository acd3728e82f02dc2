-- The lists so far leave so much.
use Rattle.std.proofs.Common.{◌≡◌, ◌+◌, take}
use Rattle.std.specs.Prelude.{sum_by}
use Rattle.hp_parts.proofs.Joining.{counted_in}
use Rattle.hp_parts.proofs.rooms.fit_in.Given as goal

abbrev pub invariant-loop-ends : goal.invariant-loop-ends
invariant-loop-ends l = record {
  so_far : l.left + sum_by (counted_in (λ v. v.items)) (take l.ends-index l.lists) ≡ l.room;
}
