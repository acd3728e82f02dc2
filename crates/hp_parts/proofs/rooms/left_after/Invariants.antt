-- The ends so far leave so much.
use Rattle.std.proofs.Common.{◌≡◌, ◌+◌, take}
use Rattle.std.specs.Prelude.{sum_by}
use Rattle.hp_parts.proofs.rooms.left_after.Given as goal

abbrev pub invariant-loop-end : goal.invariant-loop-end
invariant-loop-end l = record {
  so_far : l.left + sum_by (λ e. e.count) (take l.end-index l.ends) ≡ l.room;
}
