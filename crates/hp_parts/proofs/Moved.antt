-- The same ends in another order.
use Rattle.std.proofs.Common.{◌≡◌, ℕ, ◌<◌, List, [], ◌∷◌, length, Some, slice_get, slice_set, get_or, refl, ap, sym, subst, ◌∙◌, arith, inl, inr}
use Rattle.std.specs.Prelude.{◌⊎◌}
use Rattle.std.specs.List.{swap}
use Rattle.std.specs.List.Sorted.{IsPermutation}
use Rattle.std.proofs.lemmas.List.Sorted.{IsPermutation-keeps, IsPermutation-sym, sum_by-IsPermutation}
use Rattle.std.proofs.lemmas.Option.{slice_get-get_or}
use Rattle.hp_schedules.specs.declared.tally.Ending.{Ending}
use Rattle.hp_schedules.specs.Ends.{AreCounted}
use Rattle.hp_schedules.specs.Outcomes.{OutcomeValue}
use Rattle.hp_schedules.proofs.Counts.{get_set_cases}
use Rattle.hp_parts.specs.AllParts.{AreApart}

-- what stood at a place stands at another after two were swapped
abbrev IsTurned : (i j from to : ℕ) → Type 0
IsTurned i j from to =
    ((to ≡ j) × (from ≡ i))
    ⊎ (((to ≡ j → ⊥) × (to ≡ i) × (from ≡ j)) ⊎ ((to ≡ j → ⊥) × (to ≡ i → ⊥) × (from ≡ to)))

one_place : (i j from a b : ℕ) → IsTurned i j from a → IsTurned i j from b → a ≡ b
one_place i j from a b h k = omega arith

at_swapped : {A : Type 0} (xs : List A) (i j : ℕ) → i < length xs → j < length xs → (k : ℕ) (x : A)
    → slice_get (swap xs i j) k ≡ Some x → (from : ℕ) × (slice_get xs from ≡ Some x) × IsTurned i j from k
at_swapped [] i j less more k x h = absurd cc
at_swapped (d ∷ ys) i j less more k x h =
    elim (get_set_cases (slice_set (d ∷ ys) i (get_or (d ∷ ys) j d)) j (get_or (d ∷ ys) i d) k x h) [
      | inl last ↦
          (i, slice_get-get_or (d ∷ ys) i d less ∙ ap Some last.1, inl (last.0, refl))
      | inr others ↦ elim (get_set_cases (d ∷ ys) i (get_or (d ∷ ys) j d) k x others.1) [
        | inl first ↦ (
          j,
          slice_get-get_or (d ∷ ys) j d more ∙ ap Some first.1,
          inr (inl (others.0, first.0, refl)),
        )
        | inr same ↦ (k, same.1, inr (inr (others.0, same.0, refl)))
      ]
    ]

-- each item stood there before
stood_there : {A : Type 0} (xs ys : List A) → IsPermutation xs ys → (k : ℕ) (x : A) → slice_get ys k ≡ Some x
    → (from : ℕ) × (slice_get xs from ≡ Some x)
stood_there {A} xs ys moved =
    IsPermutation-keeps xs
    (λ (zs : List A). (k : ℕ) (x : A) → slice_get zs k ≡ Some x → (from : ℕ) × (slice_get xs from ≡ Some x))
    (λ k x h. (k, h))
    (λ zs i j less more before k x h.
    let at = at_swapped zs i j less more k x h in before at.0 x at.1)
    ys moved

pub apart_moved : (old new : List Ending) → IsPermutation old new → AreApart old → AreApart new
apart_moved old new moved ok =
    IsPermutation-keeps old AreApart ok
    (λ ends i j less more before a b e f h k same.
    let x = at_swapped ends i j less more a e h in
    let y = at_swapped ends i j less more b f k in
    one_place i j x.0 a b x.2
    (subst (λ (n : ℕ). IsTurned i j n b) (before y.0 x.0 f e y.1 x.1 (sym same)) y.2))
    new moved

-- they say the same
pub counted_moved : (E : List ℕ → OutcomeValue → Type 0) (old new : List Ending) → IsPermutation old new
    → AreCounted E old → AreCounted E new
counted_moved E old new moved ok = record {
  counts = λ k e h. let at = stood_there old new moved k e h in ok.counts at.0 e at.1;
  firsts = λ k e h. let at = stood_there old new moved k e h in ok.firsts at.0 e at.1;
  every =
      λ s x said. let at = ok.every s x said in
      let now = stood_there new old (IsPermutation-sym old new moved) at.0 at.1 at.2 in
      (now.0, at.1, now.1, at.3);
  apart = apart_moved old new moved ok.apart;
  total = rw (sum_by-IsPermutation (λ (e : Ending). e.count) old new moved) ok.total;
}
