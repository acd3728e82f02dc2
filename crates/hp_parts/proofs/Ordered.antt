-- The numbers of parts that rise, one place after another.
use Rattle.std.proofs.Common.{◌≡◌, ℕ, ◌+◌, ◌-◌, ◌<◌, ◌≤◌, List, [], ◌∷◌, length, get_or, ap, sym, subst, ◌∙◌, arith, inl, inr}
use Rattle.std.proofs.lemmas.Bool.{cases_lt}
use Rattle.std.proofs.lemmas.List.{get_or_default}
use Rattle.hp_parts.specs.Ordering.{AreInPlace, ArePlacedBelow, AreRising, AreWithin, IsMissing, IsTwice}
use Rattle.hp_parts.specs.Gathering.{PartEndsValue}

module _ (of : ℕ) (parts : List PartEndsValue) (index number : ℕ) (p : PartEndsValue)
    (lt : index < length parts) (here : p ≡ get_or parts index p) (is : number ≡ p.number)
    (within : AreWithin of parts) (rising : AreRising parts) (placed : ArePlacedBelow index parts) where
  at : (d : PartEndsValue) → (get_or parts index d).number ≡ number
  at d = ap (λ (q : PartEndsValue). q.number) (get_or_default parts index d p lt ∙ sym here) ∙ sym is

  -- the part at the place has the number of the place before it
  pub comes_twice : number < index + 1 → IsTwice parts number
  comes_twice less = record {
    some = some;
    before = rw own at placed;
    within = rw own at lt;
    again = λ d. subst (λ (n : ℕ). (get_or parts n d).number ≡ number) own (at d);
    beyond = λ k d from k_lt. omega (arith, rising index k d (omega (arith, own, from)) k_lt, at d);
  }
    where
      some : 1 ≤ number
      some = rw (at p) at (within index p lt).0

      own : index ≡ number
      own =
          omega (
            arith,
            some,
            less,
            placed (index - 1) p (omega (arith, some, less)),
            rising (index - 1) index p (omega arith) lt,
            at p,
          )

  -- a number is passed over
  pub is_missing : index + 1 < number → IsMissing parts of (index + 1)
  is_missing more = record {
    some = omega arith;
    within = omega (arith, (within index p lt).1, at p, more);
    before = λ k d less. placed k d (omega (arith, less));
    beyond = λ k d from k_lt. omega (arith, rising index k d (omega (arith, from)) k_lt, at d, more);
  }

-- all are there once
pub all_placed : (of : ℕ) (parts : List PartEndsValue) → AreWithin of parts
    → ArePlacedBelow (length parts) parts → of ≤ length parts → AreInPlace of parts
all_placed of parts within placed enough =
    let count : length parts ≡ of = omega (arith, few parts within placed, enough) in
    record { count = count; numbers = rw count at placed }
  where
    few : (ps : List PartEndsValue) → AreWithin of ps → ArePlacedBelow (length ps) ps → length ps ≤ of
    few [] within placed = omega arith
    few (p ∷ ps) within placed = elim (cases_lt of (length (p ∷ ps))) [
      | inl less ↦ absurd (omega (arith, placed of p less, (within of p less).1))
      | inr enough ↦ enough
    ]
