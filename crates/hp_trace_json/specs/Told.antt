-- A part of a state has a value for each key, and entries report how the part changed. A key whose
-- value changed has one entry, from its value before to its value now; every other key has none.
use Rattle.std.specs.Prelude.{ℕ, ◌≡◌, ◌≢◌, ◌⊎◌, ◌<◌, ◌≤◌, Bool, List, [], ◌∷◌, ◌++◌}
use Rattle.std.specs.List.{filter}

-- the entries about one key, which `is` selects. If the key's value did not change, there is none;
-- otherwise there is one, and `Sets was now` holds of it
abbrev pub Tells : {T V : Type 0} → (is : T → Bool) → (Sets : V → V → T → Type 0) → (was now : V) → List T
    → Type 0
Tells is Sets was now told =
    ((was ≡ now) × (filter is told ≡ []))
    ⊎ ((x : _) × (was ≢ now) × (filter is told ≡ x ∷ []) × Sets was now x)

-- no entry is about the key
abbrev pub IsSilent : {T : Type 0} → (is : T → Bool) → List T → Type 0
IsSilent is told = filter is told ≡ []

-- `Said` holds of each key below n, and `Silent` of every other
abbrev pub TellsBelow : {T : Type 0} → (Said Silent : ℕ → List T → Type 0) → (n : ℕ) → List T → Type 0
TellsBelow Said Silent n told = (k : ℕ) → (k < n → Said k told) × (n ≤ k → Silent k told)

-- if the values differ, an entry is added, of which `Is` and `Sets was now` hold
abbrev pub AddsIf : {T V : Type 0} → (Is : T → Type 0) → (Sets : V → V → T → Type 0) → (was now : V)
    → (old new : List T) → Type 0
AddsIf Is Sets was now old new =
    ((was ≡ now) × (new ≡ old))
    ⊎ ((x : _) × (was ≢ now) × (new ≡ old ++ x ∷ []) × Is x × Sets was now x)
