-- What a walk over numbers makes of the place of one frame: the last number that has the frame sets it.
use Rattle.std.proofs.Common.{◌≡◌, ℕ, zero, suc, ◌<◌, ◌⊎◌, inl, inr, refl, ◌∙◌, arith}
use Rattle.std.proofs.lemmas.Bool.{cases_eq}
use Rattle.hp_map.specs.declared.places.Place.{Place}
use Rattle.hp_map.specs.Marks.{Mark, marks_below}

-- a mark sets the frame's place, or leaves it
abbrev pub Sets : (Place → Place) → Place → Type 0
Sets mark place = (p : Place) → mark p ≡ place

abbrev pub Leaves : (Place → Place) → Type 0
Leaves mark = (p : Place) → mark p ≡ p

-- what is known of a number: that it has the frame, and which place it sets, or that it has not
abbrev pub Has : (marks : ℕ → Mark) (frame : ℕ) (place : ℕ → Place) (Hit Miss : ℕ → Type 0) → ℕ → Type 0
Has marks frame place Hit Miss i =
    (Hit i × Sets (marks i frame) (place i)) ⊎ (Miss i × Leaves (marks i frame))

-- what is known of all below n
abbrev pub HasBelow : (marks : ℕ → Mark) (frame : ℕ) (place : ℕ → Place) (Hit Miss : ℕ → Type 0) → ℕ → Type 0
HasBelow marks frame place Hit Miss n =
    ((i : ℕ) × (i < n) × Hit i × Sets (marks_below marks n frame) (place i))
    ⊎ (((i : ℕ) → i < n → Miss i) × Leaves (marks_below marks n frame))

one_more : (Miss : ℕ → Type 0) (n : ℕ) → Miss n → ((i : ℕ) → i < n → Miss i) → (i : ℕ) → i < suc n → Miss i
one_more Miss n last below i lt = grind (arith, cases_eq)

pub walk : (marks : ℕ → Mark) (frame : ℕ) (place : ℕ → Place) (Hit Miss : ℕ → Type 0)
    → ((i : ℕ) → Has marks frame place Hit Miss i) → (n : ℕ) → HasBelow marks frame place Hit Miss n
unfolding marks_below
walk marks frame place Hit Miss has zero = inr (λ i lt. absurd (omega arith), λ p. refl)
walk marks frame place Hit Miss has (suc n) = elim (has n) [
  | inl hit ↦ inl (n, omega arith, hit.0, λ p. hit.1 (marks_below marks n frame p))
  | inr miss ↦ elim (walk marks frame place Hit Miss has n) [
    | inl before ↦ inl (before.0, omega (arith, before.1), before.2, λ p. miss.1 _ ∙ before.3 p)
    | inr none ↦ inr (one_more Miss n miss.0 none.0, λ p. miss.1 _ ∙ none.1 p)
  ]
]
