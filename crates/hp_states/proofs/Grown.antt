-- Ends that grow, and what is kept of places while they do.
use Rattle.std.proofs.Common.{◌≡◌, ℕ, zero, suc, ◌+◌, ◌<◌, ◌≤◌, List, length, take, get_or, Some, slice_get, sym, subst, ◌∙◌, arith, inl, inr}
use Rattle.std.specs.Prelude.{◌⊎◌, sum_by}
use Rattle.std.proofs.lemmas.Bool.{cases_lt}
use Rattle.std.proofs.lemmas.List.{get_or_past, length_push, length-set, take_all}
use Rattle.std.proofs.lemmas.List.Sums.{sum_by_push}
use Rattle.std.proofs.lemmas.Option.{slice_get_within}
use Rattle.hp_laws.proofs.Lists.{get_push_cases, get_some, take_next}
use Rattle.hp_schedules.specs.Ends.{AreCounted}
use Rattle.hp_schedules.specs.Notes.{IsNoted}
use Rattle.hp_schedules.specs.Orders.{HasCount, IsFirst}
use Rattle.hp_schedules.specs.Outcomes.{OutcomeValue}
use Rattle.hp_schedules.specs.Schedules.{EndsWith, Setting}
use Rattle.hp_states.specs.Seen.{Grow, IsSeen, SeenValue}
use Rattle.hp_schedules.specs.Shares.{AddsCounts}
use Rattle.hp_schedules.specs.declared.tally.Ending.{Ending}
use Rattle.hp_schedules.proofs.Counting.{either_listed, get_longer, none_listed, same_count}
use Rattle.hp_schedules.proofs.Counts.{get_set_cases}

-- ---- growing

pub grow_none : (ends : List Ending) → Grow ends ends
grow_none ends = grind (arith, slice_get_within)

pub grow_twice : (old mid new : List Ending) → Grow old mid → Grow mid new → Grow old new
grow_twice old mid new a b = record {
  longer = omega (arith, a.longer, b.longer);
  kept =
      λ k e f h i. let l = slice_get_within old k e h in
      let m = get_some mid k (omega (arith, l, a.longer)) in
      let first = a.kept k e m.0 h m.1 in
      let second = b.kept k m.0 f m.1 i in
      (second.0 ∙ first.0, omega (arith, first.1, second.1));
  fresh =
      λ k f h past. elim (cases_lt k (length mid)) [
        | inl less ↦
            (let m = get_some mid k less in rw (b.kept k m.0 f m.1 h).0 (a.fresh k m.0 m.1 past))
        | inr later ↦
            λ i e was same.
            let m = get_some mid i (let l = slice_get_within old i e was in omega (arith, l, a.longer)) in
            b.fresh k f h later i m.0 m.1 ((a.kept i e m.0 was m.1).0 ∙ same)
      ];
}

-- one schedule more
pub grow_noted : (old new : List Ending) (x : OutcomeValue) (schedule : List ℕ) → IsNoted old x schedule new
    → Grow old new
grow_noted old new x schedule noted = elim noted [
  | inl one ↦ grind (arith, length-set, get_set_cases, slice_get_within)
  | inr first ↦ grind (arith, length_push, get_longer, get_push_cases, slice_get_within)
]

-- the end that this one was before the counts were added
pub was_end : {old new : List Ending} {counts : List ℕ} → AddsCounts old counts new → (i : ℕ) (f : Ending)
    → slice_get new i ≡ Some f
    → (e : Ending) × (slice_get old i ≡ Some e) × (f.outcome ≡ e.outcome)
    × (f.first.items ≡ e.first.items) × (f.count ≡ e.count + get_or counts i 0)
was_end {old = old} {new = new} adds i f h =
    let e = get_some old i (let l = slice_get_within new i f h in omega (arith, l, adds.as_many)) in
    let m = adds.more i e.0 f e.1 h in
    (e.0, e.1, m.0, m.1, m.2)

-- more of each
pub grow_added : (old new : List Ending) (counts : List ℕ) → AddsCounts old counts new → Grow old new
grow_added old new counts adds = grind (arith, slice_get_within)

-- ---- places that are kept

-- while the ends grow
pub seen_grows : (g : Setting) (old new : List Ending) (seen : SeenValue) → Grow old new → IsSeen g old seen
    → IsSeen g new seen
seen_grows g old new seen grow is = record {
  played = is.played;
  few = omega (arith, is.few, grow.longer);
  counted =
      λ k f h. elim (cases_lt k (length old)) [
        | inl less ↦
            (let e = get_some old k less in rw (grow.kept k e.0 f e.1 h).0 (is.counted k e.0 e.1))
        | inr past ↦
            rw (get_or_past seen.counts k 0 (omega (arith, past, is.few)))
            (none_listed _
            (λ s on. let at = is.every s f.outcome on in grow.fresh k f h past at.0 at.1 at.2 at.3))
      ];
  every =
      λ s x on. let at = is.every s x on in
      let l = slice_get_within old at.0 at.1 at.2 in
      let f = get_some new at.0 (omega (arith, l, grow.longer)) in
      (at.0, f.0, f.1, (grow.kept at.0 at.1 f.0 at.2 f.1).0 ∙ at.3);
}

-- ---- the total

-- a schedule has one outcome
pub one_outcome : (g : Setting) (s : List ℕ) (x y : OutcomeValue) → EndsWith g s x → EndsWith g s y → x ≡ y
one_outcome g s x y a b = grind (arith)

-- those of ends below a place
abbrev EndsBelow : (List ℕ → OutcomeValue → Type 0) → List Ending → (below : ℕ) → List ℕ → Type 0
EndsBelow E ends below s = (k : ℕ) × (e : Ending) × (k < below) × (slice_get ends k ≡ Some e) × E s e.outcome

-- ends that have all but the total have it too: their counts add up to the number of all schedules
pub all_counted : (E : List ℕ → OutcomeValue → Type 0) (ends : List Ending)
    → ((s : List ℕ) (x y : OutcomeValue) → E s x → E s y → x ≡ y)
    → ((k : ℕ) (e : Ending) → slice_get ends k ≡ Some e → HasCount (λ s. E s e.outcome) e.count)
    → ((k : ℕ) (e : Ending) → slice_get ends k ≡ Some e → IsFirst (λ s. E s e.outcome) e.first.items)
    → ((s : List ℕ) (x : OutcomeValue) → E s x
    → (k : ℕ) × (e : Ending) × (slice_get ends k ≡ Some e) × (e.outcome ≡ x))
    → ((i j : ℕ) (e f : Ending) → slice_get ends i ≡ Some e → slice_get ends j ≡ Some f
    → e.outcome ≡ f.outcome → i ≡ j)
    → AreCounted E ends
all_counted E ends one counts firsts every apart = record {
  counts = counts;
  firsts = firsts;
  every = every;
  apart = apart;
  total =
      rw (take_all (length ends) ends (omega arith)) at
      (same_count (EndsBelow E ends (length ends)) (λ s. (x : OutcomeValue) × E s x) _
      (λ s h. (h.1.outcome, h.4))
      (λ s h. let at = every s h.0 h.1 in
      (at.0, at.1, slice_get_within ends at.0 at.1 at.2, at.2, subst (E s) (sym at.3) h.1))
      (below (length ends) (omega arith)));
}
  where
    below : (n : ℕ) → n ≤ length ends
        → HasCount (EndsBelow E ends n) (sum_by (λ (e : Ending). e.count) (take n ends))
    below zero le = none_listed (EndsBelow E ends 0) (λ s h. absurd (omega (arith, h.2)))
    below (suc n) le =
        let e = get_some ends n (omega arith) in
        rw (take_next ends n e.0 e.1, sum_by_push (λ (x : Ending). x.count) (take n ends) e.0)
        (same_count (λ s. EndsBelow E ends n s ⊎ E s e.0.outcome) (EndsBelow E ends (suc n)) _
        (λ s h. elim h [
          | inl b ↦ (b.0, b.1, omega (arith, b.2), b.3, b.4)
          | inr f ↦ (n, e.0, omega arith, e.1, f)
        ])
        (λ s h. elim (cases_lt h.0 n) [
          | inl less ↦ inl (h.0, h.1, less, h.3, h.4)
          | inr past ↦ (let same : h.0 ≡ n = omega (arith, past, h.2) in
              let end : h.1 ≡ e.0 = cc in inr (rw end at h.4))
        ])
        (either_listed (EndsBelow E ends n) (λ s. E s e.0.outcome) _ _
        (λ s h f. let same = apart h.0 n h.1 e.0 h.3 e.1 (one s h.1.outcome e.0.outcome h.4 f) in
        omega (arith, same, h.2)) (below n (omega arith)) (counts n e.0 e.1)))
