-- What a number says of a state.
use Rattle.std.proofs.Common.{ℕ, ◌≡◌, List, sym, ◌∙◌}
use Rattle.std.proofs.lemmas.Option.{same_Some}
use Rattle.hp_units.specs.LayoutParts.{LayoutParts}
use Rattle.hp_units.specs.Memory.{Memory}
use Rattle.hp_units.specs.Placement.{IsShaped}
use Rattle.hp_states.specs.Codes.{IsCoded, KeepCodes, place_code, state_code}
use Rattle.hp_states.proofs.Apart.{counted-apart}
use Rattle.hp_states.proofs.Parts.{states-apart}

-- a number means its state as codes come
pub coded_is_kept : (l : LayoutParts) (old new : List (List ℕ)) (n : ℕ) (m : Memory) → KeepCodes old new
    → IsCoded l old n m → IsCoded l new n m
coded_is_kept l old new n m keep is = record { code = keep n _ is.code; shaped = is.shaped }

-- a number means one state
pub coded_states_are_same : (l : LayoutParts) (codes : List (List ℕ)) (n : ℕ) (a b : Memory)
    → IsCoded l codes n a → IsCoded l codes n b → a ≡ b
coded_states_are_same l codes n a b left right =
    states-apart l a b left.shaped right.shaped
    (same_Some (state_code l a) (state_code l b) (sym left.code ∙ right.code))

-- a place's code is that of one place
pub places_apart : (l : LayoutParts) (ns ms : List ℕ) (a b : Memory) → IsShaped l a → IsShaped l b
    → place_code l ns a ≡ place_code l ms b → (ns ≡ ms) × (a ≡ b)
places_apart l ns ms a b left right same =
    let parts = counted-apart ns ms (state_code l a) (state_code l b) same in
    (parts.0, states-apart l a b left right parts.1)
