use Rattle.std.proofs.Common.{◌≡◌, ℕ, ◌<◌, ◌≤◌, ◌/◌, [], get_or, length}
use Rattle.hp_plain.specs.Placing.{IsListJoined}
use Rattle.hp_plain.proofs.placement.are_joined_by.Given as goal

abbrev pub invariant-loop-number : goal.invariant-loop-number
invariant-loop-number l = record {
  long : length l.heads ≡ length l.fn.heads;
  below : (f : ℕ) → get_or l.heads f 0 ≤ l.number;
  joined : (k : ℕ) → k < l.number → IsListJoined (get_or l.areas.lists k []) (k / 5);
}
