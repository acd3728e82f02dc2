-- A mark after one more record, and after all.
use Rattle.std.proofs.Common.{◌≡◌, ℕ, suc, ◌+◌, ◌<◌, ◌≤◌, List, [], ◌∷◌, ◌++◌, length, Option, Some, None, slice_get, refl, sym, subst, ◌∙◌, arith, inl, inr}
use Rattle.std.specs.Prelude.{◌⊎◌}
use Rattle.std.proofs.lemmas.Bool.{cases_lt}
use Rattle.std.proofs.lemmas.List.{length-append}
use Rattle.std.proofs.lemmas.Option.{slice_get_within}
use Rattle.hp_units.specs.Receipts.{DifferAt}
use Rattle.hp_units.specs.declared.replies.Receipt.{Receipt}
use Rattle.hp_laws.proofs.Lists.{get_end, get_left, get_push_cases, get_some}
use Rattle.hp_shared.specs.declared.marks.Compared.{Compared}
use Rattle.hp_shared.specs.Marks.{Agrees, DiffersBefore, EntryDiffersAt, IsMark, lower}
use Rattle.hp_shared.specs.Comparing.{IsOutcome}
use Rattle.hp_shared.proofs.Outcomes.{joined, mapped}

-- where all agree, none differs
agreed : (receipts done : List Receipt) → Agrees receipts done → (n : ℕ) → DiffersBefore receipts done n → ⊥
agreed receipts done agree n d = d.3.0 (agree d.0 d.1 d.2)

-- the same entry at the next place
agrees_on : (receipts done : List Receipt) (b : Receipt) → Agrees receipts done
    → slice_get receipts (length done) ≡ Some b → Agrees receipts (done ++ b ∷ [])
agrees_on receipts done b agree is at x h = grind (arith, get_push_cases)

-- what differed before differs still
differs_on : (receipts done : List Receipt) (b : Receipt) (n : ℕ) → DiffersBefore receipts done n
    → DiffersBefore receipts (done ++ b ∷ []) n
differs_on receipts done b n d = grind (arith, get_left, slice_get_within)

-- and what differs at last differed before, or here
differs_back : (receipts done : List Receipt) (b : Receipt) (n : ℕ)
    → DiffersBefore receipts (done ++ b ∷ []) n
    → DiffersBefore receipts done n ⊎ EntryDiffersAt (slice_get receipts (length done)) b n
differs_back receipts done b n d = grind (arith, get_push_cases)

pub mark_stepped : (receipts done : List Receipt) (b : Receipt) (m : Compared) (here low : Option ℕ)
    → IsOutcome (slice_get receipts m.next ≡ Some b) (EntryDiffersAt (slice_get receipts m.next) b) here
    → low ≡ lower m.lowest here → IsMark receipts done m
    → IsMark receipts (done ++ b ∷ []) (record { next = m.next + 1; lowest = low })
mark_stepped receipts done b m here low found is mark = record {
  next = omega (arith, mark.next, length-append done (b ∷ []));
  lowest =
      rw is (joined (Agrees receipts done) (slice_get receipts (length done) ≡ Some b)
      (Agrees receipts (done ++ b ∷ [])) (DiffersBefore receipts done) (EntryDiffersAt (slice_get receipts
      (length done)) b) (DiffersBefore receipts (done ++ b ∷ [])) m.lowest here mark.lowest (subst
      (λ (k : ℕ). IsOutcome (slice_get receipts k ≡ Some b) (EntryDiffersAt (slice_get receipts k) b) here)
      mark.next found) (agreed receipts done) (λ same n d. d.0 same) (agrees_on receipts done b) (differs_on
      receipts done b) (λ n d. (length done, b, get_end done b, d)) (differs_back receipts done b));
}

-- ---- the receipts after the records

-- a receipt of a seat stands after the records' receipts, before a place
abbrev pub StandsAfter : List Receipt → List Receipt → ℕ → ℕ → Type 0
StandsAfter receipts done end serial =
    (at : ℕ) × (a : Receipt) × (length done ≤ at) × (at < end) × (slice_get receipts at ≡ Some a)
    × (a.serial ≡ serial)

-- the outcome with the seat's receipts before a place
abbrev pub IsEndedBefore : List Receipt → List Receipt → ℕ → Option ℕ → Type 0
IsEndedBefore receipts done end =
    IsOutcome (Agrees receipts done × (end ≤ length done))
    (λ serial. DiffersBefore receipts done serial ⊎ StandsAfter receipts done end serial)

-- before any of them
pub ends_before_none : (receipts done : List Receipt) (m : Compared) → IsMark receipts done m
    → IsEndedBefore receipts done m.next m.lowest
ends_before_none receipts done m mark = grind (arith, mapped)

-- after one more
pub ends_before_next : (receipts done : List Receipt) (end : ℕ) (a : Receipt) (o low : Option ℕ)
    → length done ≤ end → slice_get receipts end ≡ Some a → low ≡ lower o (Some a.serial)
    → IsEndedBefore receipts done end o → IsEndedBefore receipts done (end + 1) low
ends_before_next receipts done end a o low past here is ended =
    rw is
    (joined (Agrees receipts done × (end ≤ length done)) ⊥ (Agrees receipts done × (end + 1 ≤ length done))
    (λ n. DiffersBefore receipts done n ⊎ StandsAfter receipts done end n) (λ n. a.serial ≡ n)
    (λ n. DiffersBefore receipts done n ⊎ StandsAfter receipts done (end + 1) n) o (Some a.serial) ended
    (refl, λ k same. omega (arith, same))
    (λ good n d.
    elim d [ inl x ↦ agreed receipts done good.0 n x | inr s ↦ absurd (omega (arith, good.1, s.2, s.3)) ])
    (λ none n d. none)
    (λ good none. absurd none)
    (λ n d. elim d [ inl x ↦ inl x | inr s ↦ inr (s.0, s.1, s.2, omega (arith, s.3), s.4, s.5) ])
    (λ n same. inr (end, a, past, omega arith, here, same))
    (λ n d. elim d [ inl x ↦ inl (inl x) | inr s ↦ by_place n s (cases_lt s.0 end) ]))
  where
    by_place : (n : ℕ) (s : StandsAfter receipts done (end + 1) n) → (s.0 < end) ⊎ (end ≤ s.0)
        → (DiffersBefore receipts done n ⊎ StandsAfter receipts done end n) ⊎ (a.serial ≡ n)
    by_place n s (inl less) = inl (inr (s.0, s.1, s.2, less, s.4, s.5))
    by_place n s (inr past) = grind arith

-- lists that agree at each place of the second, which is as long, are the same
same_places : (xs ys : List Receipt) → Agrees xs ys → length xs ≤ length ys → xs ≡ ys
same_places [] [] agree long = refl
same_places [] (y ∷ ys) agree long = absurd (let e = agree 0 y refl in cc)
same_places (x ∷ xs) [] agree long = absurd (omega arith)
same_places (x ∷ xs) (y ∷ ys) agree long =
    let head : Some x ≡ Some y = agree 0 y refl in
    let rest = same_places xs ys (λ at b. agree (suc at) b) (omega arith) in cc

-- what differs before the end of the receipts is all that differs
differ_all : (receipts done : List Receipt) (end n : ℕ)
    → DiffersBefore receipts done n ⊎ StandsAfter receipts done end n → DifferAt receipts done n
differ_all receipts done end n h = grind (arith, slice_get_within)

differ_back : (receipts done : List Receipt) (end n : ℕ) → length receipts ≤ end → DifferAt receipts done n
    → DiffersBefore receipts done n ⊎ StandsAfter receipts done end n
differ_back receipts done end n long (inl own) = by_entry (slice_get done own.0) refl
  where
    past : (k : ℕ) → slice_get done k ≡ None → length done ≤ k
    past k none =
        elim (cases_lt k (length done)) [
          | inl less ↦ let found = get_some done k less in let clash : Some
              found.0 ≡ None = sym found.1 ∙ none in absurd cc
          | inr far ↦ far
        ]

    by_entry : (o : Option Receipt) → slice_get done own.0 ≡ o
        → DiffersBefore receipts done n ⊎ StandsAfter receipts done end n
    by_entry None none =
        inr (
          own.0,
          own.1,
          past own.0 none,
          (let inside = slice_get_within receipts own.0 own.1 own.2 in omega arith),
          own.2,
          own.3,
        )
    by_entry (Some b) some = grind arith
differ_back receipts done end n long (inr other) = inl (other.0, other.1, other.2, (other.4, inl other.3))

-- so after the last receipt the search is over
pub ended : (receipts done : List Receipt) (end : ℕ) (o : Option ℕ) → length receipts ≤ end
    → IsEndedBefore receipts done end o → IsOutcome (receipts ≡ done) (DifferAt receipts done) o
ended receipts done end o long before =
    mapped (Agrees receipts done × (end ≤ length done)) (receipts ≡ done)
    (λ n. DiffersBefore receipts done n ⊎ StandsAfter receipts done end n) (DifferAt receipts done) o before
    (λ good. same_places receipts done good.0 (omega (arith, good.1)))
    (differ_all receipts done end)
    (λ n. differ_back receipts done end n long)
