-- Which of two schedules is the earlier one.
use Rattle.std.proofs.Common.{◌≡◌, ℕ, ◌<◌, false, List, [], ◌∷◌, refl, ap, sym, ◌∙◌, arith, inl, inr, ◌+◌, ◌≤◌, length, get_or, drop, add-one, drop-cons}
use Rattle.std.specs.Prelude.{◌⊎◌}
use Rattle.std.specs.Cmp.Lexicographic.{slice_cmp, nat_list_cmp_total}
use Rattle.std.specs.Ordering.{is_lt, nat_cmp, ordering_reverse, ordering_then}
use Rattle.std.specs.declared.cmp.Ordering.{Ordering}
use Rattle.std.specs.declared.cmp.Ordering.TheVariants.{Less, Equal, Greater}
use Rattle.std.proofs.lemmas.Bool.{cases_lt}
use Rattle.hp_schedules.specs.Orders.{Extends, IsBefore}
use Rattle.hp_schedules.proofs.Regions.{extends_cons}
use Rattle.hp_parts.specs.Adding.{earlier}
use Rattle.std.proofs.lemmas.List.{drop_all}
use Rattle.hp_schedules.specs.Outcomes.{OutcomeValue}
use Rattle.hp_schedules.specs.Schedules.{EndsWith, Setting}
use Rattle.hp_schedules.proofs.Plays.{only_this}

nat_same : (c : ℕ) → nat_cmp c c ≡ Equal
nat_same c = grind arith

nat_less : (d c : ℕ) → d < c → nat_cmp d c ≡ Less
nat_less d c h = grind arith

-- what stands before another is less
pub before_less : (s t : List ℕ) → IsBefore s t → slice_cmp nat_cmp s t ≡ Less
before_less s [] h = absurd h
before_less [] (c ∷ t) h = absurd h
before_less (d ∷ s) (c ∷ t) h =
    elim h [
      | inl less ↦ ap (λ (r : Ordering). ordering_then r (slice_cmp nat_cmp s t)) (nat_less d c less)
      | inr e ↦ ap (λ (r : Ordering). ordering_then r (slice_cmp nat_cmp s t))
          (ap (λ (n : ℕ). nat_cmp n c) e.0 ∙ nat_same c)
          ∙ before_less s t e.1
    ]

-- and not the other way round
pub after_not_less : (s t : List ℕ) → IsBefore t s → is_lt (slice_cmp nat_cmp s t) ≡ false
after_not_less s t h =
    ap is_lt (nat_list_cmp_total.antisymm s t ∙ ap ordering_reverse (before_less t s h))

-- of two schedules one stands before the other, or goes on from it
pub sides : (s t : List ℕ) → IsBefore s t ⊎ (IsBefore t s ⊎ (Extends t s ⊎ Extends s t))
sides [] t = inr (inr (inl (t, refl)))
sides (d ∷ s) [] = inr (inr (inr (d ∷ s, refl)))
sides (d ∷ s) (c ∷ t) =
    elim (cases_lt d c) [
      | inl less ↦ inl (inl less)
      | inr more ↦ elim (cases_lt c d) [
        | inl less ↦ inr (inl (inl less))
        | inr other ↦ (let same : d ≡ c = omega arith in by_tails same (sides s t))
      ]
    ]
  where
    by_tails : d ≡ c → IsBefore s t ⊎ (IsBefore t s ⊎ (Extends t s ⊎ Extends s t))
        → IsBefore (d ∷ s) (c ∷ t)
        ⊎ (IsBefore (c ∷ t) (d ∷ s) ⊎ (Extends (c ∷ t) (d ∷ s) ⊎ Extends (d ∷ s) (c ∷ t)))
    by_tails same h =
        elim h [
          | inl before ↦ inl (inr (same, before))
          | inr rest ↦ elim rest [
            | inl after ↦ inr (inl (inr (sym same, after)))
            | inr on ↦ elim on [
              | inl longer ↦ inr (inr (inl (extends_cons d c t s (sym same) longer)))
              | inr shorter ↦ inr (inr (inr (extends_cons c d s t same shorter)))
            ]
          ]
        ]

-- the earlier of two of which one stands before the other
pub earlier_of : (s t : List ℕ) → IsBefore s t ⊎ IsBefore t s
    → ((earlier s t ≡ s) × IsBefore s t) ⊎ ((earlier s t ≡ t) × IsBefore t s)
earlier_of s t h = grind (arith, before_less, after_not_less)

-- ---- two schedules that are the same so far

-- what is left of a list at a place
rest_at : (xs : List ℕ) (i : ℕ) → i < length xs → drop i xs ≡ get_or xs i 0 ∷ drop (i + 1) xs
rest_at xs i within = rw (add-one, drop-cons xs i 0) refl

-- where one goes on from the other it stands after it
pub longer : (xs ys : List ℕ) (i : ℕ) → i < length xs → length ys ≤ i
    → slice_cmp nat_cmp xs ys ≡ slice_cmp nat_cmp (drop i xs) (drop i ys) → Greater ≡ slice_cmp nat_cmp xs ys
longer xs ys i less past so_far = rw (so_far, rest_at xs i less, drop_all i ys past)

pub shorter : (xs ys : List ℕ) (i : ℕ) → length xs ≤ i → i < length ys
    → slice_cmp nat_cmp xs ys ≡ slice_cmp nat_cmp (drop i xs) (drop i ys) → Less ≡ slice_cmp nat_cmp xs ys
shorter xs ys i past less so_far = rw (so_far, drop_all i xs past, rest_at ys i less)

-- ---- complete schedules

-- two of them are one, with one outcome, or one stands before the other
pub compared : (g : Setting) (s t : List ℕ) (x y : OutcomeValue) → EndsWith g s x → EndsWith g t y
    → ((s ≡ t) × (x ≡ y)) ⊎ (IsBefore s t ⊎ IsBefore t s)
compared g s t x y a b =
    elim (sides s t) [
      | inl before ↦ inr (inl before)
      | inr rest ↦ elim rest [
        | inl after ↦ inr (inr after)
        | inr on ↦ elim on [
          | inl longer ↦
              (let is = only_this g s a.news t y a.played a.over longer b in
              inl (sym is.0, sym a.ends ∙ sym is.1))
          | inr shorter ↦
              (let is = only_this g t b.news s x b.played b.over shorter a in inl (is.0, is.1 ∙ b.ends))
        ]
      ]
    ]
