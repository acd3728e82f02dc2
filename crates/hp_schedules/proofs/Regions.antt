-- Schedules before and after a place of the walk.
use Rattle.std.proofs.Common.{◌≡◌, ℕ, ◌+◌, ◌<◌, ◌≤◌, List, [], ◌∷◌, ◌++◌, refl, sym, subst, ◌∙◌, arith, inl, inr}
use Rattle.std.specs.Prelude.{◌⊎◌}
use Rattle.std.proofs.lemmas.Bool.{cases_lt}
use Rattle.hp_schedules.specs.Orders.{Extends, IsBefore}

-- no schedule stands before itself
pub not_before_itself : (p : List ℕ) → IsBefore p p → ⊥
not_before_itself [] h = h
not_before_itself (c ∷ p) h = elim h [ inl l ↦ absurd (omega arith) | inr e ↦ not_before_itself p e.1 ]

-- nor before one that it begins
pub not_before_longer : (p q : List ℕ) → IsBefore p (p ++ q) → ⊥
not_before_longer [] [] h = h
not_before_longer [] (c ∷ q) h = h
not_before_longer (c ∷ p) q h = elim h [ inl l ↦ absurd (omega arith) | inr e ↦ not_before_longer p q e.1 ]

-- what stands before one that stands before a third
pub before_before : (s t u : List ℕ) → IsBefore s t → IsBefore t u → IsBefore s u
before_before s [] u h k = absurd h
before_before s (c ∷ t) [] h k = absurd k
before_before [] (c ∷ t) (b ∷ u) h k = absurd h
before_before (d ∷ s) (c ∷ t) (b ∷ u) h k =
    elim h [
      | inl less ↦ elim k [ inl more ↦ inl (omega arith) | inr e ↦ inl (omega (arith, e.0)) ]
      | inr e ↦ elim k [
        | inl more ↦ inl (omega (arith, e.0))
        | inr f ↦ inr (e.0 ∙ f.0, before_before s t u e.1 f.1)
      ]
    ]

-- one processor more in front
pub extends_cons : (c d : ℕ) (s p : List ℕ) → d ≡ c → Extends s p → Extends (d ∷ s) (c ∷ p)
extends_cons c d s p same h = (h.0, rw (same, h.1) refl)

-- what stands before a schedule stands before each that it begins
pub before_longer : (s p q : List ℕ) → IsBefore s p → IsBefore s (p ++ q)
before_longer s [] q h = absurd h
before_longer [] (c ∷ p) q h = absurd h
before_longer (d ∷ s) (c ∷ p) q h = elim h [ inl l ↦ inl l | inr e ↦ inr (e.0, before_longer s p q e.1) ]

-- nothing stands between a schedule and its first continuation
pub before_first : (s p : List ℕ) → IsBefore s (p ++ 0 ∷ []) → IsBefore s p
before_first [] [] h = h
before_first (d ∷ s) [] h = elim h [ inl l ↦ absurd (omega arith) | inr e ↦ e.1 ]
before_first [] (c ∷ p) h = h
before_first (d ∷ s) (c ∷ p) h = elim h [ inl l ↦ inl l | inr e ↦ inr (e.0, before_first s p e.1) ]

-- what stands before the continuation by the next processor
pub before_next : (s p : List ℕ) (c : ℕ) → IsBefore s (p ++ (c + 1) ∷ [])
    → IsBefore s (p ++ c ∷ []) ⊎ Extends s (p ++ c ∷ [])
before_next [] [] c h = absurd h
before_next (d ∷ s) [] c h = elim h [
  | inl l ↦ elim (cases_lt d c)
      [ inl less ↦ inl (inl less) | inr more ↦ inr (extends_cons c d s [] (omega arith) (s, refl)) ]
  | inr e ↦ absurd e.1
]
before_next [] (b ∷ p) c h = absurd h
before_next (d ∷ s) (b ∷ p) c h =
    elim h [
      | inl l ↦ inl (inl l)
      | inr e ↦
          elim (before_next s p c e.1)
          [ inl k ↦ inl (inr (e.0, k)) | inr x ↦ inr (extends_cons b d s (p ++ c ∷ []) e.0 x) ]
    ]

-- what stands before a continuation stands before each later one
pub before_later : (s p : List ℕ) (c d : ℕ) → c ≤ d → IsBefore s (p ++ c ∷ []) → IsBefore s (p ++ d ∷ [])
before_later [] [] c d le h = absurd h
before_later (b ∷ s) [] c d le h = elim h [ inl l ↦ inl (omega arith) | inr e ↦ absurd e.1 ]
before_later [] (b ∷ p) c d le h = absurd h
before_later (a ∷ s) (b ∷ p) c d le h =
    elim h [ inl l ↦ inl l | inr e ↦ inr (e.0, before_later s p c d le e.1) ]

-- a continuation stands before each later one
pub extends_before : (s p : List ℕ) (c d : ℕ) → c < d → Extends s (p ++ c ∷ []) → IsBefore s (p ++ d ∷ [])
extends_before s p c d less h = subst (λ t. IsBefore t (p ++ d ∷ [])) (sym h.1) (continued p h.0)
  where
    continued : (p rest : List ℕ) → IsBefore ((p ++ c ∷ []) ++ rest) (p ++ d ∷ [])
    continued [] rest = inl less
    continued (b ∷ p) rest = inr (refl, continued p rest)

-- what stands before a continuation stands before the schedule, or continues it
pub before_all : (s p : List ℕ) (c : ℕ) → IsBefore s (p ++ c ∷ []) → IsBefore s p ⊎ Extends s p
before_all s [] c h = inr (s, refl)
before_all [] (b ∷ p) c h = absurd h
before_all (d ∷ s) (b ∷ p) c h =
    elim h [
      | inl l ↦ inl (inl l)
      | inr e ↦
          elim (before_all s p c e.1)
          [ inl k ↦ inl (inr (e.0, k)) | inr x ↦ inr (extends_cons b d s p e.0 x) ]
    ]
