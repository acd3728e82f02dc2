-- Lemmas on lists of numbers, lists of copies of one value, and reading from a list.
use Rattle.std.proofs.Common.{◌≡◌, ℕ, zero, suc, List, ◌∷◌, length, get_or, replicate, true, refl, sym, ◌⊎◌, inl, inr, ◌==◌, eqb-true, Option, Some, None, IfSome, option_map, slice_get}
use Rattle.std.specs.Bool.{nat_lt}
use Rattle.std.specs.Option.{is_some}
use Rattle.std.proofs.lemmas.Bool.{or_cases, ltb-false, ltb-true}
use Rattle.std.proofs.lemmas.Option.{slice_get_past, slice_get_read}
use Rattle.hp_units.specs.FreeAreas.{is_on}

-- a number on a list is the first one or on the rest
pub on_cases : (number x : ℕ) (xs : List ℕ) → is_on number (x ∷ xs) ≡ true
    → (x ≡ number) ⊎ (is_on number xs ≡ true)
on_cases number x xs e =
    elim (or_cases (x == number) (is_on number xs) e)
    [ inl same ↦ inl (eqb-true x number same) | inr on ↦ inr on ]

-- every entry of a list of copies is the copied value, and so is the default past its end
pub at_replicate : {A : Type 0} (n i : ℕ) (x : A) → get_or (replicate n x) i x ≡ x
at_replicate zero i x = refl
at_replicate (suc n) zero x = refl
at_replicate (suc n) (suc i) x = at_replicate n i x

-- what `get` reads from a slice
pub item_read : {R X : Type 0} (now : R → X) (xs : List X) (i : ℕ) (r : Option R)
    → is_some r ≡ nat_lt i (length xs) → IfSome r (λ x. now x ≡ get_or xs i (now x))
    → option_map now r ≡ slice_get xs i
item_read now xs i None within is = sym (slice_get_past xs i (ltb-false i (length xs) (sym within)))
item_read now xs i (Some x) within is =
    sym (slice_get_read xs (length xs) i (now x) refl (ltb-true i (length xs) (sym within)) is)
