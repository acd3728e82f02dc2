-- The marks of records, as they are written one by one.
use Rattle.std.proofs.Common.{◌≡◌, ℕ, ◌+◌, ◌<◌, ◌≤◌, Bool, List, [], ◌∷◌, ◌++◌, length, Some, None, slice_get, sym, subst, ◌∙◌, arith, inl, inr}
use mir.Val.{bool_byte}
use Rattle.std.specs.Prelude.{◌⊎◌, ◌↔◌, IsTrue}
use Rattle.std.proofs.lemmas.Bool.{cases_lt}
use Rattle.std.proofs.lemmas.List.{append_assoc, length_push}
use Rattle.std.proofs.lemmas.Option.{same_Some, slice_get_within}
use Rattle.hp_laws.proofs.Lists.{get_end, get_left}
use Rattle.hp_units.specs.declared.replies.Record.{Record}
use Rattle.hp_units.specs.declared.replies.Reply.{Reply}
use Rattle.hp_schedules.specs.Outcomes.{replies_below, replies_to, told}
use Rattle.hp_schedules.specs.declared.scripts.Step.{Step}
use Rattle.hp_questions.specs.Marks.{AreMet, HasLineSoFar, line_of}
use Rattle.hp_questions.specs.Wanted.{HasAnswerAt}
use Rattle.hp_questions.specs.Patterns.{IsAsWanted}
use Rattle.hp_questions.specs.declared.wanted.Pattern.{Pattern}
use Rattle.hp_questions.specs.declared.wanted.Wanted.{Wanted}
use Rattle.hp_questions.proofs.Marking.{below_at, below_is}

-- ---- tests

-- of the reply at a place, if there is one
pub told_at_some : (p : Pattern) (n : ℕ) (news : List Record) (cpu earlier : ℕ) (answer : Reply)
    (told : Bool)
    → cpu < n → Some answer ≡ slice_get (replies_to cpu news) earlier
    → (IsTrue told ↔ IsAsWanted p answer)
    → IsTrue told ↔ HasAnswerAt p (replies_below n news) cpu earlier
told_at_some p n news cpu earlier answer told within is same = (
  λ yes. (replies_to cpu news, below_at n news cpu within, (answer, sym is, same.0 yes)),
  λ has. same.1 (subst (IsAsWanted p) (same_Some has.2.0 answer (sym has.2.1
      ∙ rw (is, (below_is n news cpu has.0 has.1).1))) has.2.2),
)

pub told_at_none : (p : Pattern) (n : ℕ) (news : List Record) (cpu earlier : ℕ)
    → None ≡ slice_get (replies_to cpu news) earlier
    → HasAnswerAt p (replies_below n news) cpu earlier → ⊥
told_at_none p n news cpu earlier is has = grind (arith, below_is)

-- ---- the marks are made

-- one wanted line more
one_or_none : (P : Type 0) (told : Bool) (n : ℕ) → n ≡ bool_byte told → (IsTrue told ↔ P)
    → ((n ≡ 1) ↔ P) × ((n ≡ 0) ⊎ (n ≡ 1))
one_or_none P told n is same = grind (arith, same)

pub met_more : (cpus : ℕ) (scripts : List (List Step)) (wanted : List Wanted) (processors : ℕ)
    (news : List Record) (i : ℕ) (one : Wanted) (told : Bool) (n : ℕ) (old mid new : List ℕ)
    → slice_get wanted i ≡ Some one
    → (met : List ℕ) × (mid ≡ old ++ met) × AreMet cpus scripts wanted processors news i met
    → new ≡ mid ++ n ∷ []
    → n ≡ bool_byte told → (IsTrue told ↔ HasLineSoFar cpus scripts processors news (line_of one))
    → (met : List ℕ) × (new ≡ old ++ met) × AreMet cpus scripts wanted processors news (i + 1) met
met_more cpus scripts wanted processors news i one told n old mid new here so_far is n_is same = (
  so_far.0 ++ n ∷ [],
  rw (is, so_far.1) (simp append_assoc),
  (
    omega (arith, length_push so_far.0 n, so_far.2.0),
    λ k other less at. by_place k other at (cases_lt k i) less,
  ),
)
  where
    last : ((n ≡ 1) ↔ HasLineSoFar cpus scripts processors news (line_of one)) × ((n ≡ 0) ⊎ (n ≡ 1))
    last = one_or_none (HasLineSoFar cpus scripts processors news (line_of one)) told n n_is same

    by_place : (k : ℕ) (other : Wanted) → slice_get wanted k ≡ Some other → (k < i) ⊎ (i ≤ k) → k < i + 1
        → (m : ℕ) × (slice_get (so_far.0 ++ n ∷ []) k ≡ Some m)
        × ((m ≡ 1) ↔ HasLineSoFar cpus scripts processors news (line_of other)) × ((m ≡ 0) ⊎ (m ≡ 1))
    by_place k other at (inl below) less =
        let x = so_far.2.1 k other below at in
        (x.0, get_left so_far.0 (n ∷ []) k (slice_get_within so_far.0 k x.0 x.1) ∙ x.1, x.2, x.3)
    by_place k other at (inr past) less =
        let place : k ≡ length so_far.0 = omega (arith, so_far.2.0, past, less) in
        let index : k ≡ i = omega (arith, past, less) in
        let same : other ≡ one = same_Some other one (sym at ∙ rw index here) in
        (n, rw place (get_end so_far.0 n), rw same last.0, last.1)
