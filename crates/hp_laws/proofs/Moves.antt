-- The frames of a range that are on a list, and those of the list that are not in the range, are
-- the list's frames.
use Rattle.std.proofs.Common.{◌≡◌, ℕ, zero, suc, ◌+◌, ◌≤◌, List, [], ◌∷◌, Bool, true, false, not, cond, refl, ◌∙◌, arith, inl, inr, ◌==◌, ◌||◌, ◌&&◌, eq-eqb, ne_eqb}
use Rattle.std.specs.Prelude.{filter, nat_le, nat_lt}
use Rattle.std.specs.List.{sum_by, range_with_len}
use Rattle.std.proofs.lemmas.Bool.{cases_eq, false_from_ne_true}
use Rattle.std.proofs.lemmas.Bool.Decides.{nat_tests}
use Rattle.std.proofs.lemmas.List.Sums.{sum_by-cons}
use Rattle.hp_units.specs.FreeAreas.{is_on}
use Rattle.hp_units.specs.Placement.{list_places}
use Rattle.hp_units.proofs.Places.{list_places-cons}
use Rattle.hp_units.proofs.ListEdits.{covered-self, on-places}

-- the sum over the numbers of a range that pass
total : (w : ℕ → ℕ) (p : ℕ → Bool) (from count : ℕ) → ℕ
total w p from zero = 0
total w p from (suc count) = cond (p from) (w from) 0 + total w p (from + 1) count

sum-filter : (w : ℕ → ℕ) (p : ℕ → Bool) (from count : ℕ)
    → sum_by w (filter p (range_with_len from count)) ≡ total w p from count
unfolding total
sum-filter w p from zero = refl
sum-filter w p from (suc count) = step _ _ (sum-filter w p (from + 1) count)
  where
    step : (b : Bool) (xs : List ℕ) {n : ℕ} → sum_by w xs ≡ n
        → sum_by w (cond b (from ∷ xs) xs) ≡ cond b (w from) 0 + n
    step true xs e = omega (arith, e, sum_by-cons w from xs)
    step false xs e = omega (arith, e)

total-none : (w : ℕ → ℕ) (from count : ℕ) → total w (λ y. false) from count ≡ 0
unfolding total
total-none w from zero = refl
total-none w from (suc count) = omega (arith, total-none w (from + 1) count)

-- one number more that passes
total-more : (w : ℕ → ℕ) (p : ℕ → Bool) (x from count : ℕ) → p x ≡ false
    → total w (λ y. (x == y) || p y) from count
    ≡ cond (nat_le from x && nat_lt x (from + count)) (w x) 0 + total w p from count
unfolding total
total-more w p x from zero e =
    let gone : cond (nat_le from x && nat_lt x (from + 0)) (w x) 0 ≡ 0 = rw (within_none x from) refl in
    omega arith
  where
    within_none : (x from : ℕ) → (nat_le from x && nat_lt x (from + 0)) ≡ false
    within_none x from = grind (arith, nat_tests)
total-more w p x from (suc count) e = elim (cases_eq x from) [
  | inl same ↦
      let off : p from ≡ false = rw (← same) e in
      let here : cond ((x == from) || p from) (w from) 0 ≡ w x = rw (eq-eqb x from same, same) refl in
      let gone : cond (p from) (w from) 0 ≡ 0 = rw off refl in
      let yes : (nat_le from x && nat_lt x (from + suc count)) ≡ true = grind (arith, nat_tests) in
      let no : (nat_le (from + 1) x && nat_lt x (from + 1 + count)) ≡ false = grind (arith, nat_tests) in
      let first : cond (nat_le from x && nat_lt x (from + suc count)) (w x) 0 ≡ w x = rw yes refl in
      let second : cond (nat_le (from + 1) x && nat_lt x (from + 1 + count)) (w x) 0 ≡ 0 = rw no refl in
      omega (arith, here, gone, first, second, total-more w p x (from + 1) count e)
  | inr ne ↦
      let off : (x == from) ≡ false = ne_eqb x from ne in
      let here : cond ((x == from) || p from) (w from) 0 ≡ cond (p from) (w from) 0 = rw off refl in
      let same : (nat_le from x && nat_lt x (from + suc count))
      ≡ (nat_le (from + 1) x && nat_lt x (from + 1 + count)) =
      grind (arith, nat_tests) in
      let both : cond (nat_le from x && nat_lt x (from + suc count)) (w x) 0
      ≡ cond (nat_le (from + 1) x && nat_lt x (from + 1 + count)) (w x) 0 =
      rw same refl in
      omega (arith, here, both, total-more w p x (from + 1) count e)
]

-- no number is twice on a list: it follows from the places
abbrev pub AreApart : List ℕ → Type 0
AreApart [] = Unit {0}
AreApart (x ∷ xs) = (is_on x xs ≡ false) × AreApart xs

pub apart_by_places : (order : ℕ) (xs : List ℕ) → ((frame : ℕ) → list_places frame order xs ≤ 1) → AreApart xs
apart_by_places order [] few = tt
apart_by_places order (x ∷ xs) few = (
  false_from_ne_true (is_on x xs) (λ on.
      let some : 1 ≤ list_places x order xs = on-places x order xs on in
      absurd (omega (arith, few x, list_places-cons x order x xs, covered-self order x))),
  apart_by_places order xs (λ frame. omega (arith, few frame, list_places-cons frame order x xs)),
)

abbrev pub is_among : (from count x : ℕ) → Bool
is_among from count x = nat_le from x && nat_lt x (from + count)

pub moved-sum : (w : ℕ → ℕ) (from count : ℕ) (xs : List ℕ) → AreApart xs
    → sum_by w (filter (λ x. is_on x xs) (range_with_len from count))
    + sum_by w (filter (λ x. not (is_among from count x)) xs) ≡ sum_by w xs
moved-sum w from count [] apart = omega (arith, sum-filter w (λ x. false) from count, total-none w from count)
moved-sum w from count (x ∷ xs) apart =
    let rest = moved-sum w from count xs apart.1 in
    let more = total-more w (λ y. is_on y xs) x from count apart.0 in
    let whole = sum-filter w (λ y. is_on y (x ∷ xs)) from count in
    let part = sum-filter w (λ y. is_on y xs) from count in
    step _ _ rest (whole ∙ more) part (sum_by-cons w x xs)
  where
    step : (b : Bool) (ys : List ℕ) {part whole old now t : ℕ} → part + sum_by w ys ≡ old
        → whole ≡ cond b (w x) 0 + t → part ≡ t → now ≡ w x + old
        → whole + sum_by w (cond (not b) (x ∷ ys) ys) ≡ now
    step true ys r m p n = omega arith
    step false ys r m p n = omega (arith, sum_by-cons w x ys)
