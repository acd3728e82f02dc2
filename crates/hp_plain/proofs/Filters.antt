-- Filtered lists of numbers.
use Rattle.std.proofs.Common.{◌≡◌, ℕ, ◌+◌, List, [], ◌∷◌, ◌++◌, Bool, true, false, cond, ◌||◌, ◌==◌, refl, sym, ◌∙◌, ap, filter, add-one}
use Rattle.std.specs.List.{range_with_len}
use Rattle.std.proofs.lemmas.List.Elements.{filter-append}
use Rattle.hp_units.specs.FreeAreas.{is_on}
use Rattle.hp_plain.proofs.Ranges.{range_push}

-- one more number that a filter keeps or leaves out
filter-step : (keep same : Bool) (number x : ℕ) (xs ys : List ℕ) → (x == number) ≡ same
    → (is_on number ys ≡ true → is_on number xs ≡ true)
    → is_on number (cond keep (x ∷ ys) ys) ≡ true → is_on number (x ∷ xs) ≡ true
filter-step keep true number x xs ys s h e = ap (λ (b : Bool). b || is_on number xs) s
filter-step false false number x xs ys s h e = ap (λ (b : Bool). b || is_on number xs) s ∙ h e
filter-step true false number x xs ys s h e = rw s (h (sym (ap (λ (b : Bool). b || is_on number ys) s) ∙ e))

-- a number on a filtered list is on the list
pub on-filter : (p : ℕ → Bool) (number : ℕ) (xs : List ℕ) → is_on number (filter p xs) ≡ true
    → is_on number xs ≡ true
on-filter p number [] e = e
on-filter p number (x ∷ xs) e =
    filter-step (p x) (x == number) number x xs (filter p xs) refl (on-filter p number xs) e

-- a filter of the numbers from `a` on, with one more number
pub filter-range_more : (p : ℕ → Bool) (a n : ℕ) (keep : Bool) → p (a + n) ≡ keep
    → filter p (range_with_len a (n + 1)) ≡ filter p (range_with_len a n) ++ cond keep ((a + n) ∷ []) []
filter-range_more p a n keep e =
    ap (λ (k : ℕ). filter p (range_with_len a k)) (add-one n) ∙ ap (filter p) (range_push a n)
    ∙ filter-append p (range_with_len a n) ((a + n) ∷ [])
    ∙ ap (λ (b : Bool). filter p (range_with_len a n) ++ cond b ((a + n) ∷ []) []) e
