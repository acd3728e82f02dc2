use Rattle.std.specs.Prelude.{◌≡◌, ℕ, ◌<◌, Some, slice_get}
use Rattle.hp_shared.specs.Comparing.{IsTwinless}
use Rattle.hp_shared.specs.Shared.{SeatValue}
use Rattle.hp_shared.proofs.comparing.has_each.Given as goal

abbrev pub invariant-loop-place : goal.invariant-loop-place
invariant-loop-place g l =
    (k : ℕ) (seat : SeatValue) → k < l.place → slice_get l.seats.items k ≡ Some seat
    → (seat.cpu < l.cpus) × IsTwinless l.seats.items k
