-- Places in lists, by slice_get.
use Rattle.std.proofs.Common.{◌≡◌, ℕ, zero, suc, ◌<◌, List, [], ◌∷◌, ◌++◌, length, take, Some, slice_get, refl, ap, arith, inl, inr, Bool, cond}
use Rattle.std.specs.Prelude.{◌⊎◌}

-- a place in the first of two lists
pub get_left : {A : Type 0} (xs ys : List A) (k : ℕ) → k < length xs → slice_get (xs ++ ys) k ≡ slice_get xs k
get_left [] ys k h = absurd (omega arith)
get_left (x ∷ xs) ys zero h = refl
get_left (x ∷ xs) ys (suc k) h = get_left xs ys k (omega arith)

-- the last place of a list with one item more
pub get_end : {A : Type 0} (xs : List A) (y : A) → slice_get (xs ++ y ∷ []) (length xs) ≡ Some y
get_end [] y = refl
get_end (x ∷ xs) y = get_end xs y

-- each place of a list with one item more is a place of the list, or the last
pub get_push_cases : {A : Type 0} (xs : List A) (y x : A) (k : ℕ) → slice_get (xs ++ y ∷ []) k ≡ Some x
    → (slice_get xs k ≡ Some x) ⊎ ((k ≡ length xs) × (y ≡ x))
get_push_cases [] y x zero h = inr (refl, cc)
get_push_cases [] y x (suc k) h = absurd cc
get_push_cases (z ∷ xs) y x zero h = inl h
get_push_cases (z ∷ xs) y x (suc k) h =
    elim (get_push_cases xs y x k h) [ inl e ↦ inl e | inr e ↦ inr (rw e.0, e.1) ]

-- a place in the beginning of a list
pub get_take : {A : Type 0} (n : ℕ) (xs : List A) (x : A) (k : ℕ) → slice_get (take n xs) k ≡ Some x
    → (k < n) × (slice_get xs k ≡ Some x)
get_take (suc n) (z ∷ xs) x zero h = (omega arith, h)
get_take (suc n) (z ∷ xs) x (suc k) h = let r = get_take n xs x k h in (omega arith, r.1)
get_take _ _ x k h = absurd cc

-- each place of a list holds an item
pub get_some : {A : Type 0} (xs : List A) (k : ℕ) → k < length xs → (x : A) × (slice_get xs k ≡ Some x)
get_some [] k h = absurd (omega arith)
get_some (x ∷ xs) zero h = (x, refl)
get_some (x ∷ xs) (suc k) h = get_some xs k (omega arith)

-- a beginning that is longer by one item
pub take_next : {A : Type 0} (xs : List A) (k : ℕ) (x : A) → slice_get xs k ≡ Some x
    → take (suc k) xs ≡ take k xs ++ x ∷ []
take_next [] k x h = absurd cc
take_next (y ∷ xs) zero x h = cc
take_next (y ∷ xs) (suc k) x h = ap (λ ys. y ∷ ys) (take_next xs k x h)

abbrev pub one_if : Bool → ℕ
one_if b = cond b 1 0
