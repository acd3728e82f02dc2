-- Budgets of changes, and what a search within one found.
use Rattle.std.proofs.Common.{◌≡◌, ℕ, Bool, true, List, [], ◌++◌, length, Option, Some, None, refl, ap, sym, subst, ◌∙◌, arith, inl, inr, ◌+◌, ◌-◌, ◌<◌, ◌≤◌, eqb, ◌∷◌, get_or, take}
use Rattle.std.specs.Option.{is_some}
use Rattle.std.specs.Prelude.{◌↔◌, IsTrue, not}
use Rattle.std.proofs.lemmas.Bool.{cases_lt, cases_Bool}
use Rattle.hp_units.specs.History.{value_of}
use Rattle.hp_units.specs.declared.replies.Record.{Record}
use Rattle.hp_schedules.specs.Schedules.{Setting, outcome_after, plays, schedule_of}
use Rattle.hp_questions.specs.Marks.{IsLost}
use Rattle.hp_questions.specs.declared.wanted.Wanted.{Wanted}
use Rattle.hp_explore.specs.Aims.{FillsSearch, IsFirstSought, IsSearchCause, MayBeSkipped}
use Rattle.hp_explore.specs.Changes.{changes, change, changes_after}
use Rattle.hp_explore.proofs.Continued.{continued}
use Rattle.hp_explore.specs.FindFaults.{IsPassCause, IsFindCause, IsNearCause, few_changes}
use Rattle.hp_explore.specs.Reaching.{Exceeds, IfUnbounded, IsFirstWithin, IsWithin, Reaches, IsNearest, IsNearestBelow, NeedsChanges, ReachesFirst}
use Rattle.hp_explore.specs.Withins.{aim_within}
use Rattle.hp_explore.specs.declared.fault.FindFault.{FindFault}
use Rattle.hp_explore.specs.declared.fault.FindFault.TheVariants.{HistoryFull}
use Rattle.std.proofs.lemmas.List.{append_assoc, length-append, take_all, take_more}

-- ---- the changes of a schedule that grows

-- one call more
after_push : (b : ℕ) (p : List ℕ) (c d : ℕ)
    → changes_after b (p ++ c ∷ d ∷ []) ≡ changes_after b (p ++ c ∷ []) + change c d
after_push b [] c d = omega arith
after_push b (a ∷ p) c d = omega (arith, after_push a p c d)

changes_push : (p : List ℕ) (c d : ℕ)
    → changes (p ++ c ∷ d ∷ []) ≡ changes (p ++ c ∷ []) + change c d
changes_push [] c d = omega arith
changes_push (b ∷ p) c d = after_push b p c d

-- one call alone is no change
pub changes_none : (s : List ℕ) (cpu : ℕ) → length s ≡ 0 → 0 ≡ changes (s ++ cpu ∷ [])
changes_none [] cpu none = refl
changes_none (c ∷ s) cpu none = absurd (omega (arith, none))

-- the calls up to a place, and the one there
parted : (s : List ℕ) (i a : ℕ) → 1 ≤ i → i ≤ length s → a ≡ get_or s (i - 1) a
    → take i s ≡ take (i - 1) s ++ a ∷ []
parted s i a some within is = grind (arith, take_more)

-- one call more after some
pub changes_last : (s : List ℕ) (last next one : ℕ) → 1 ≤ length s → last ≡ get_or s (length s - 1) last
    → one ≡ change last next → changes s + one ≡ changes (s ++ next ∷ [])
changes_last s last next one some last_is one_is =
    let p : List ℕ = take (length s - 1) s in
    let is : s ≡ p ++ last ∷ [] =
    sym (take_all (length s) s (omega arith)) ∙ parted s (length s) last some (omega arith) last_is in
    let more : changes (s ++ next ∷ []) ≡ changes s + change last next =
    ap (λ (t : List ℕ). changes (t ++ next ∷ [])) is
    ∙ (ap changes (append_assoc p (last ∷ []) (next ∷ []))
    ∙ (changes_push p last next ∙ ap (λ (t : List ℕ). changes t + change last next) (sym is))) in
    omega (arith, more, one_is)

pub changes_more : (s : List ℕ) (i count one a b : ℕ) → 1 ≤ i → i < length s → count ≡ changes (take i s)
    → a ≡ get_or s (i - 1) a → b ≡ get_or s i b → one ≡ change a b → count + one ≡ changes (take (i + 1) s)
changes_more s i count one a b some less so_far a_is b_is is =
    let p : List ℕ = take (i - 1) s in
    let before : take i s ≡ p ++ a ∷ [] = parted s i a some (omega (arith, less)) a_is in
    let more : changes (take (i + 1) s) ≡ changes (p ++ a ∷ []) + change a b =
    rw (take_more s i b less, ← b_is, before, append_assoc p (a ∷ []) (b ∷ []), changes_push p a b) in
    let first : count ≡ changes (p ++ a ∷ []) = rw (so_far, before) in
    omega (arith, more, first, is)

-- a schedule has at least the changes of what it begins with
after_longer : (b : ℕ) (p q : List ℕ) → changes_after b p ≤ changes_after b (p ++ q)
after_longer b [] q = omega arith
after_longer b (a ∷ p) q = omega (arith, after_longer a p q)

pub changes_longer : (p q : List ℕ) → changes p ≤ changes (p ++ q)
changes_longer [] q = omega arith
changes_longer (b ∷ p) q = after_longer b p q

-- a schedule has fewer changes than calls
change_one : (a b : ℕ) → change a b ≤ 1
change_one a b = elim (cases_Bool (eqb a b)) [ inl e ↦ rw e (omega arith) | inr e ↦ rw e (omega arith) ]

after_few : (b : ℕ) (p : List ℕ) → changes_after b p ≤ length p
after_few b [] = omega arith
after_few b (a ∷ p) = omega (arith, change_one b a, after_few a p)

pub changes_few : (s : List ℕ) (next : ℕ) → changes (s ++ next ∷ []) ≤ length s
changes_few [] next = omega arith
changes_few (b ∷ s) next = omega (arith, after_few b (s ++ next ∷ []), length-append s (next ∷ []))

-- ---- budgets

-- nothing is both within a budget and past it
not_both : (budget : Option ℕ) (s : List ℕ) → IsWithin budget s → Exceeds budget s → ⊥
not_both None s within past = past
not_both (Some b) s within past = omega (arith, within, past)

-- what is not within it is past it
past_if : (budget : Option ℕ) (s : List ℕ) → (IsWithin budget s → ⊥) → Exceeds budget s
past_if None s not = not tt
past_if (Some b) s not = elim (cases_lt b (changes s)) [ inl more ↦ more | inr few ↦ absurd (not few) ]

-- what continues from a schedule past it is past it
exceeds_longer : (budget : Option ℕ) (p q : List ℕ) → Exceeds budget p → Exceeds budget (p ++ q)
exceeds_longer None p q past = past
exceeds_longer (Some b) p q past = omega (arith, changes_longer p q, past)

-- ---- what need not be tried

-- a call that is a change too many
pub far_skipped : (g : Setting) (wanted : List Wanted) (budget : Option ℕ) (place : List ℕ)
    → Exceeds budget place → MayBeSkipped (aim_within g wanted budget) place
far_skipped g wanted None place far = absurd far
far_skipped g wanted (Some b) place far = (
  λ s sought on. not_both (Some b) (place ++ on.0) (subst (IsWithin (Some b)) on.1 sought.1)
      (exceeds_longer (Some b) place on.0 far),
  λ whole. cc,
)

-- a place from which no end can be as wanted
pub lost_skipped : (g : Setting) (wanted : List Wanted) (budget : Option ℕ) (news : List Record)
    → is_some budget ≡ true → plays g (schedule_of news) ≡ Some news
    → IsLost g.layout.cpus g.scripts wanted (length g.scripts) news
    → MayBeSkipped (aim_within g wanted budget) (schedule_of news)
unfolding outcome_after
lost_skipped g wanted None news some played lost = absurd cc
lost_skipped g wanted (Some b) news some played lost = (
  λ s sought on.
      let more = continued g (schedule_of news) on.0 news sought.0.1.news played
      (ap (plays g) (sym on.1) ∙ sought.0.1.played) in
      lost more.0 g.layout (value_of g.layout g.base (g.start ++ sought.0.1.news))
      (rw (← more.1, sought.0.1.ends) sought.0.2),
  λ whole. cc,
)

-- ---- results

unbounded : (budget : Option ℕ) (P : Type 0) → (budget ≡ None → P) → IfUnbounded budget P
unbounded None P then = then refl
unbounded (Some b) P then = tt

-- the aim of a pass stays
pub first_within : (g : Setting) (wanted lines : List Wanted) (budget most : Option ℕ)
    (found : Option (List ℕ))
    → lines ≡ wanted → most ≡ budget → IsFirstSought g (aim_within g lines most) found
    → IsFirstWithin g wanted budget found
first_within g wanted lines budget most found same left first =
    by_found found (rw (← left, ← same) first)
  where
    by_found : (found : Option (List ℕ)) → IsFirstSought g (aim_within g wanted budget) found
        → IsFirstWithin g wanted budget found
    by_found None none = (
      λ s reaches. past_if budget s (λ within. none.0 s (reaches, within)),
      unbounded budget _ none.1,
    )
    by_found (Some s) first = (
      first.0.0,
      first.0.1,
      λ t reaches before. past_if budget t (λ within. first.1 t (reaches, within) before),
      first.3,
    )

pub pass_cause : (g : Setting) (wanted lines : List Wanted) (budget most : Option ℕ) (fault : FindFault)
    → lines ≡ wanted → most ≡ budget → IsSearchCause g (aim_within g lines most) fault
    → IsPassCause g wanted budget fault
pass_cause g wanted lines budget most HistoryFull same left full =
    let cause : FillsSearch g (aim_within g wanted budget) = rw (← left, ← same) full in
    record {
      place = cause.place;
      call = cause.call;
      few = cause.tried;
      passed = λ s reaches before. past_if budget s (λ within. cause.none s (reaches, within) before);
    }
pass_cause g wanted lines budget most fault same left full = tt

-- ---- a place that is asked

pub met_told : (g : Setting) (wanted : List Wanted) (budget : Option ℕ) (s : List ℕ) (news : List Record)
    (told : Bool)
    → s ≡ schedule_of news → IsWithin budget s → (IsTrue told ↔ Reaches g wanted (schedule_of news))
    → IsTrue told ↔ (aim_within g wanted budget).sought s
met_told g wanted budget s news told is within met = (
  λ yes. (subst (Reaches g wanted) (sym is) (met.0 yes), within),
  λ sought. met.1 (subst (Reaches g wanted) is sought.0),
)

-- ---- what a pass found

-- the first that has no more changes than each needs
pub nearest_found : (g : Setting) (wanted : List Wanted) (budget below : ℕ) (s : List ℕ)
    → NeedsChanges g wanted budget → budget < below → IsFirstWithin g wanted (Some budget) (Some s)
    → IsNearestBelow g wanted below (Some s)
nearest_found g wanted budget below s needs less found = (
  (
    found.0,
    λ t reaches. omega (arith, needs t reaches, found.1),
    λ t reaches before. omega (arith, found.2 t reaches before, found.1),
  ),
  omega (arith, found.1, less),
  found.3,
)

-- the first that ends so, where each has as many changes or more
pub known_nearest : (g : Setting) (wanted : List Wanted) (below : ℕ) (known : List ℕ)
    → ReachesFirst g wanted known → below ≡ changes known → IsNearestBelow g wanted below None
    → IsNearest g wanted known
known_nearest g wanted below known reaches is needs = (
  reaches.0,
  subst (NeedsChanges g wanted) is needs,
  λ t ends before. absurd (reaches.1 t ends before),
)

-- ---- faults

-- in a pass, where each needs as many changes
pub near_cause : (g : Setting) (wanted : List Wanted) (budget below : ℕ) (fault : FindFault)
    → NeedsChanges g wanted budget → budget < below → IsPassCause g wanted (Some budget) fault
    → IsNearCause g wanted below fault
near_cause g wanted budget below HistoryFull needs less pass = record {
  place = pass.place;
  call = pass.call;
  few = omega (arith, less, pass.few);
  needs = λ s reaches. omega (arith, needs s reaches, pass.few);
  passed = λ s reaches before. omega (arith, pass.passed s reaches before, pass.few);
}
near_cause g wanted budget below fault needs less pass = tt

-- nearer than the first that ends so
pub nearer_cause : (g : Setting) (wanted : List Wanted) (known : List ℕ) (fault : FindFault)
    → NeedsChanges g wanted few_changes → ReachesFirst g wanted known
    → IsNearCause g wanted (changes known) fault → IsFindCause g wanted fault
nearer_cause g wanted known HistoryFull needs reaches near = inr (needs, inr (known, reaches, near))
nearer_cause g wanted known fault needs reaches near = tt
