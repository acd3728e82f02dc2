-- What a search finds of a place among its own places and those that it shares.
use Rattle.std.specs.Prelude.{◌≡◌, ◌⊎◌, ℕ, Bool, true, false, List}
use Rattle.hp_units.specs.declared.replies.Record.{Record}
use Rattle.hp_schedules.specs.Schedules.{Setting}
use Rattle.hp_states.specs.Codes.{IsFoundOrAdded}
use Rattle.hp_explore.specs.Aims.{AimValue}
use Rattle.hp_explore.specs.DonePlaces.{IsDoneKey}
use Rattle.hp_explore.specs.Visited.{IsKept, IsKnown, IsPlaceKey, no_stops}
use Rattle.hp_explore.specs.declared.visited.Visited.{Visited}

-- the key of the place is that of a place that is done, and means the same in each search
abbrev pub IsDoneElsewhere : Setting → AimValue → List Record → (key : List ℕ) → Type 0
IsDoneElsewhere g aim news key = IsDoneKey g aim key × IsPlaceKey g aim no_stops news key

-- either the key is found among the search's own ones, or it is that of a place that is done elsewhere; or
-- it is not found, and may have been added to them
abbrev pub IsFoundHere : Setting → AimValue → List Record → (old new : List (List ℕ)) → (key : List ℕ)
    → (found : Bool) → Type 0
IsFoundHere g aim news old new key true =
    IsFoundOrAdded old new key true ⊎ ((new ≡ old) × IsDoneElsewhere g aim news key)
IsFoundHere g aim news old new key false = IsFoundOrAdded old new key false ⊎ (new ≡ old)

-- either places are kept and the place is known to be done or visited, or its key may have been added
abbrev pub IsLookedUp : Setting → AimValue → List Record → Visited → Visited → (known : Bool) → Type 0
IsLookedUp g aim news old new true =
    (old.is_on ≡ true) × (new.keys ≡ old.keys)
    × (IsKnown g aim news new ⊎ ((key : List ℕ) × IsDoneElsewhere g aim news key))
IsLookedUp g aim news old new false = IsKept g aim news old new
