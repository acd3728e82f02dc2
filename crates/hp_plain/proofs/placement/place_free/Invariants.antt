use Rattle.std.proofs.Common.{◌≡◌, ℕ, ◌/◌, ◌%◌, [], true}
use Rattle.hp_units.specs.Memory.{class_numbered}
use Rattle.hp_units.specs.FreeAreas.{is_on}
use Rattle.hp_units.specs.Placement.{IsBlockOf, class_at, list_places}
use Rattle.hp_plain.proofs.Counting.{SoFar}
use Rattle.hp_plain.proofs.placement.place_free.Given as goal

abbrev pub invariant-loop-number : goal.invariant-loop-number
invariant-loop-number l =
    SoFar (λ frame number frames. list_places frame (number / 5) frames)
    (λ number frames. (first : ℕ) → is_on first frames ≡ true
    → IsBlockOf l.layout (class_at l.layout l.areas.kinds l.blocks.rows) (class_numbered (number % 5))
    (number / 5) first) l.areas.lists [] l.number l.fn.marks l.marks
