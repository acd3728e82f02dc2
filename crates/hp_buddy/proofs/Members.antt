-- Membership by cases against std's `Contains`, and how long a list of distinct numbers can be.
use Rattle.std.proofs.Common.{ℕ, zero, suc, ◌≡◌, ◌<◌, ◌≤◌, inl, inr, true, false, eqb, List, [], ◌∷◌, length, get_or, refl, sym, ap, arith}
use Rattle.std.specs.List.{Contains, IsDistinct, AllByRecursion, list_any}
use Rattle.std.proofs.lemmas.Bool.{eqb-true, ne_eqb, or_cases, false≢true}
use Rattle.std.proofs.lemmas.Map.Steps.{length-le_from_distinct_below}
use Rattle.hp_buddy.specs.Rings.{Member, Absent, Distinct}
use Rattle.hp_buddy.proofs.Chains.{absent_not}

pub Member-at : (y : ℕ) (xs : List ℕ) (k d : ℕ) → k < length xs → get_or xs k d ≡ y → Member y xs
Member-at y [] k d lt e = absurd (omega arith)
Member-at y (x ∷ xs) zero d lt e = inl e
Member-at y (x ∷ xs) (suc k) d lt e = inr (Member-at y xs k d (omega arith) e)

pub Member-from_Contains : (y : ℕ) (xs : List ℕ) → Contains xs y → Member y xs
Member-from_Contains y xs h = Member-at y xs h.0 y h.1 h.2

pub Contains-from_Member : (y : ℕ) (xs : List ℕ) → Member y xs → Contains xs y
Contains-from_Member y [] m = absurd m
Contains-from_Member y (x ∷ xs) (inl e) = (0, omega arith, e)
Contains-from_Member y (x ∷ xs) (inr m) =
    let h = Contains-from_Member y xs m in (suc h.0, omega (arith, h.1), h.2)

-- the same number at two places of a list of distinct ones
pub place_unique : (xs : List ℕ) → Distinct xs → (i j : ℕ) → i < length xs → j < length xs
    → get_or xs i 0 ≡ get_or xs j 0 → i ≡ j
place_unique [] d i j li lj e = absurd (omega arith)
place_unique (x ∷ xs) d zero zero li lj e = refl
place_unique (x ∷ xs) d zero (suc j) li lj e =
    absurd (absent_not x xs d.0 (Member-at x xs j 0 (omega arith) (sym e)))
place_unique (x ∷ xs) d (suc i) zero li lj e =
    absurd (absent_not x xs d.0 (Member-at x xs i 0 (omega arith) e))
place_unique (x ∷ xs) d (suc i) (suc j) li lj e =
    ap suc (place_unique xs d.1 i j (omega arith) (omega arith) e)

differ : (y : ℕ) (xs : List ℕ) → Absent y xs → AllByRecursion (λ x. eqb y x ≡ false) xs
differ y [] a = tt
differ y (x ∷ xs) a = (ne_eqb y x (λ e. a.0 (sym e)), differ y xs a.1)

IsDistinct-from_Distinct : (xs : List ℕ) → Distinct xs → IsDistinct eqb xs
unfolding IsDistinct
IsDistinct-from_Distinct [] d = tt
IsDistinct-from_Distinct (x ∷ xs) d = (differ x xs d.0, IsDistinct-from_Distinct xs d.1)

Member-from_any : (y : ℕ) (xs : List ℕ) → list_any (eqb y) xs ≡ true → Member y xs
Member-from_any y [] e = absurd (false≢true e)
Member-from_any y (x ∷ xs) e =
    elim (or_cases (eqb y x) (list_any (eqb y) xs) e)
    [ inl h ↦ inl (sym (eqb-true y x h)) | inr h ↦ inr (Member-from_any y xs h) ]

-- distinct numbers below n are at most n
pub length-le_below : (n : ℕ) (xs : List ℕ) → Distinct xs → ((x : ℕ) → Member x xs → x < n) → length xs ≤ n
length-le_below n xs d below =
    length-le_from_distinct_below xs n (IsDistinct-from_Distinct xs d)
    (λ q e. below q (Member-from_any q xs e))
