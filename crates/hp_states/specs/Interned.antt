-- Interned lists, each made by an entry from an earlier list.
use Rattle.std.specs.Prelude.{◌≡◌, ℕ, ◌≤◌, List, [], ◌∷◌, ◌++◌, Some, fold, slice_get, slice_index_or}

-- the lists with one more, which the entry `e` makes from list `below e`
abbrev pub with_entry : {E X : Type 0} → (below : E → ℕ) → (put : E → List X → List X)
    → List (List X) → E → List (List X)
with_entry below put lists e = lists ++ put e (slice_index_or lists (below e) []) ∷ []

-- the lists that the entries make, one after another; list 0 is empty
abbrev pub lists_from : {E X : Type 0} → (below : E → ℕ) → (put : E → List X → List X) → List E
    → List (List X)
lists_from below put entries = fold (with_entry below put) ([] ∷ []) entries

-- each entry makes its list from an earlier list
abbrev pub StandOnEarlier : {E : Type 0} → (below : E → ℕ) → List E → Type 0
StandOnEarlier {E = E} below entries = (i : ℕ) (e : E) → slice_get entries i ≡ Some e → below e ≤ i

-- each number keeps its list
abbrev pub KeepNumbers : {X : Type 0} → (old new : List (List X)) → Type 0
KeepNumbers {X = X} old new = (n : ℕ) (xs : List X) → slice_get old n ≡ Some xs → slice_get new n ≡ Some xs

-- the entry made the list with this number
abbrev pub IsMadeOf : {E X : Type 0} → (below : E → ℕ) → (put : E → List X → List X) → List (List X)
    → (number : ℕ) → E → Type 0
IsMadeOf {X = X} below put lists number e =
    (xs : List X) × (slice_get lists (below e) ≡ Some xs) × (slice_get lists number ≡ Some (put e xs))
