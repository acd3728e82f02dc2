-- The first frames of free blocks, list by list.
use Rattle.std.proofs.Common.{◌≡◌, ℕ, ◌+◌, ◌<◌, ◌≤◌, List, [], ◌∷◌, length, get_or, set, take, Bool, true, false, cond, ◌||◌, ◌==◌, refl, sym, ◌∙◌, ap, arith, inl, inr}
use Rattle.std.proofs.lemmas.Bool.{cases_eq, eq-eqb, ne_eqb}
use Rattle.std.proofs.lemmas.List.{get_or-set_other, get_or-set_same, take_more}
use Rattle.std.proofs.lemmas.List.Folds.{list_any-append}
use Rattle.hp_units.specs.FreeAreas.{is_on}

-- whether a frame is among the first ones of a list, one further
on_more : (frames : List ℕ) (i x frame : ℕ) → i < length frames → get_or frames i 0 ≡ x
    → is_on frame (take (i + 1) frames) ≡ (is_on frame (take i frames) || (x == frame))
on_more frames i x frame low is =
    rw (take_more frames i 0 low) (rw (list_any-append (λ other. other == frame) (take i frames)
    (get_or frames i 0 ∷ [])) (rw (or_false (get_or frames i 0 == frame), is)))
  where
    or_false : (b : Bool) → (b || false) ≡ b
    or_false true = refl
    or_false false = refl

or_true : (b : Bool) → (b || true) ≡ true
or_true b = grind arith

or_none : (b : Bool) → (b || false) ≡ b
or_none b = grind arith

-- one more first frame is set
pub heads_more : (heads old frames : List ℕ) (number i x : ℕ) → i < length frames → get_or frames i 0 ≡ x
    → x < length heads
    → ((f : ℕ) → get_or heads f 0 ≡ cond (is_on f (take i frames)) number (get_or old f 0)) → (f : ℕ)
    → get_or (set heads x number) f 0 ≡ cond (is_on f (take (i + 1) frames)) number (get_or old f 0)
heads_more heads old frames number i x low is there h f = elim (cases_eq f x) [
  | inl same ↦
      let on : is_on f (take (i + 1) frames) ≡ true =
      rw (on_more frames i x f low is, eq-eqb x f (sym same)) (or_true (is_on f (take i frames))) in
      ap (λ (n : ℕ). get_or (set heads x number) n 0) same ∙ get_or-set_same heads x number 0 there
      ∙ sym (ap (λ (b : Bool). cond b number (get_or old f 0)) on)
  | inr apart ↦
      let off : is_on f (take (i + 1) frames) ≡ is_on f (take i frames) =
      rw (on_more frames i x f low is, (ne_eqb x f (λ same. apart (sym same))))
      (or_none (is_on f (take i frames))) in
      rw (get_or-set_other heads x f number 0 apart, h f, ← off)
]

-- the first frames of a list's blocks have its number, and all others a lower one
pub heads_below : (old new frames : List ℕ) (number : ℕ)
    → ((f : ℕ) → get_or new f 0 ≡ cond (is_on f frames) (number + 1) (get_or old f 0))
    → ((f : ℕ) → get_or old f 0 ≤ number) → (f : ℕ) → get_or new f 0 ≤ number + 1
heads_below old new frames number is low f = grind arith
