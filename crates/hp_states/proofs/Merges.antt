-- What the walk makes of a place that goes on like one that was walked.
use Rattle.std.proofs.Common.{◌≡◌, ℕ, ◌+◌, ◌≤◌, List, ◌++◌, length, get_or, Some, slice_get, refl, sym, ◌∙◌, arith, inl, inr}
use Rattle.std.specs.Prelude.{◌⊎◌}
use Rattle.std.proofs.lemmas.Bool.{cases_lt}
use Rattle.std.proofs.lemmas.Option.{slice_get_within}
use Rattle.hp_laws.proofs.Lists.{get_some}
use Rattle.hp_units.specs.declared.replies.Record.{Record}
use Rattle.hp_schedules.specs.Alike.{AreAlike, AreMergeable}
use Rattle.hp_schedules.specs.Ends.{AreCounted}
use Rattle.hp_schedules.specs.Orders.{HasCount, IsFirst}
use Rattle.hp_schedules.specs.Outcomes.{OutcomeValue}
use Rattle.hp_schedules.specs.Parts.{AllOfPart, PartValue}
use Rattle.hp_schedules.specs.Schedules.{Setting, plays, schedule_of}
use Rattle.hp_states.specs.Seen.{GoesOn, Grow, IsSeen, SeenValue}
use Rattle.hp_schedules.specs.Shares.{AddsCounts}
use Rattle.hp_states.specs.Walks.{BeforeInPart, ThroughInPart}
use Rattle.hp_schedules.specs.declared.tally.Ending.{Ending}
use Rattle.hp_schedules.proofs.Alike.{ends_alike}
use Rattle.hp_schedules.proofs.Counting.{either_listed, none_listed, same_count}
use Rattle.hp_states.proofs.Grown.{all_counted, one_outcome, was_end}
use Rattle.hp_schedules.proofs.Apart.{difference, moved}
use Rattle.hp_schedules.proofs.Regions.{before_longer, not_before_itself}

-- ---- a place that goes on like another

pub turned : (g : Setting) (h k : List Record) → AreAlike g h k → AreAlike g k h
turned g h k alike = grind (arith)

-- as many schedules go on from there to each end
moved_count : (g : Setting) (p q : List ℕ) (h k : List Record) (x : OutcomeValue) (n : ℕ)
    → AreMergeable g.scripts → plays g p ≡ Some h → plays g q ≡ Some k → AreAlike g h k
    → HasCount (GoesOn g p x) n → HasCount (GoesOn g q x) n
moved_count g p q h k x n all first second alike counted =
    moved _ _ p q n
    (λ rest on. ends_alike g p q rest h k x all first second alike on)
    (λ rest on. ends_alike g q p rest k h x all second first (turned g h k alike) on) counted

-- ---- the ends, with those that go on from there

apart_regions : {g : Setting} (part : PartValue) (q : List ℕ) {x y : OutcomeValue} (s : List ℕ)
    → BeforeInPart g part q s x → GoesOn g q y s → ⊥
apart_regions part q s before on =
    not_before_itself (q ++ on.0.0) (rw on.0.1 at (before_longer s q on.0.0 before.0))

-- where all that go on from a place belong to a part, those of it up to the last continuation are those
-- before the place, and those that go on from it
through_to : {g : Setting} (part : PartValue) (q : List ℕ) {x : OutcomeValue}
    → AllOfPart (length g.scripts) part q → (s : List ℕ) → BeforeInPart g part q s x ⊎ GoesOn g q x s
    → ThroughInPart g part q s x
through_to part q all s h = grind (arith)

through_from : {g : Setting} (part : PartValue) (q : List ℕ) {x : OutcomeValue} (s : List ℕ)
    → ThroughInPart g part q s x → BeforeInPart g part q s x ⊎ GoesOn g q x s
through_from part q s h = elim h.0 [ inl b ↦ inl (b, h.1) | inr e ↦ inr (e, h.1.0) ]

-- the kept counts are those of the place, each added to its end
pub merged : (g : Setting) (part : PartValue) (q : List ℕ) (k : List Record) (seen : SeenValue)
    (old new : List Ending)
    → AllOfPart (length g.scripts) part q
    → AreMergeable g.scripts → plays g q ≡ Some k → AreAlike g seen.news k → IsSeen g old seen
    → AreCounted (BeforeInPart g part q) old → AddsCounts old seen.counts new
    → AreCounted (ThroughInPart g part q) new
merged g part q k seen old new within all second alike is ok adds =
    all_counted (ThroughInPart g part q) new (λ s x y a b. one_outcome g s x y a.1.0 b.1.0)
    (λ i f h. let e = was_end adds i f h in
    simp (e.4, e.2)
    (same_count (λ s. BeforeInPart g part q s e.0.outcome ⊎ GoesOn g q e.0.outcome s)
    (λ s. ThroughInPart g part q s e.0.outcome) _ (through_to part q within) (through_from part q)
    (either_listed _ _ _ _ (apart_regions part q) (ok.counts i e.0 e.1)
    (moved_count g _ q seen.news k _ _ all is.played second alike (is.counted i e.0 e.1)))))
    (λ i f h. let e = was_end adds i f h in
    simp (e.3, e.2) (first_of e.0.outcome e.0.first.items (ok.firsts i e.0 e.1)))
    (λ s x h. elim (through_from part q s h) [
      | inl b ↦ shown x (ok.every s x b)
      | inr on ↦
          shown x (is.every _ x (
            (on.0.0, refl),
            ends_alike g q _ on.0.0 k _ x all second is.played (turned g _ k alike) (rw on.0.1 at on.1),
          ))
    ])
    (λ i j e f h m same. let a = was_end adds i e h in
    let b = was_end adds j f m in
    ok.apart i j a.0 b.0 a.1 b.1 (sym a.2 ∙ (same ∙ b.2)))
  where
    first_of : (x : OutcomeValue) (f : List ℕ) → IsFirst (λ s. BeforeInPart g part q s x) f
        → IsFirst (λ s. ThroughInPart g part q s x) f
    first_of x f first = record {
      holds = (inl first.holds.0, first.holds.1);
      earliest =
          λ t h. elim (through_from part q t h) [
            | inl b ↦ first.earliest t b
            | inr on ↦ inr (rw on.0.1 (before_longer f q on.0.0 first.holds.0))
          ];
    }

    shown : (x : OutcomeValue) → (i : ℕ) × (e : Ending) × (slice_get old i ≡ Some e) × (e.outcome ≡ x)
        → (i : ℕ) × (f : Ending) × (slice_get new i ≡ Some f) × (f.outcome ≡ x)
    shown x at =
        let less = slice_get_within old at.0 at.1 at.2 in
        let f = get_some new at.0 (omega (arith, less, adds.as_many)) in
        (at.0, f.0, f.1, (adds.more at.0 at.1 f.0 at.2 f.1).0 ∙ at.3)

-- ---- what is kept of a place that was walked

-- its ends are known, and their counts are what came while it was walked
pub walked_seen : (g : Setting) (part : PartValue) (seen : SeenValue) (old new : List Ending)
    → AllOfPart (length g.scripts) part (schedule_of seen.news)
    → plays g (schedule_of seen.news) ≡ Some seen.news
    → length seen.counts ≤ length new
    → ((i : ℕ) (e f : Ending) → slice_get old i ≡ Some e → slice_get new i ≡ Some f
    → e.count + get_or seen.counts i 0 ≡ f.count)
    → ((i : ℕ) (f : Ending) → slice_get new i ≡ Some f → length old ≤ i → get_or seen.counts i 0 ≡ f.count)
    → Grow old new → AreCounted (BeforeInPart g part (schedule_of seen.news)) old
    → AreCounted (ThroughInPart g part (schedule_of seen.news)) new → IsSeen g new seen
walked_seen g part seen old new within played few more all grow before through = record {
  played = played;
  few = few;
  counted =
      λ i f h. elim (cases_lt i (length old)) [
        | inl less ↦ (let e = get_some old i less in
            left f.outcome (more i e.0 f e.1 h) (rw (grow.kept i e.0 f e.1 h).0 (before.counts i e.0 e.1))
            (through.counts i f h))
        | inr past ↦
            left f.outcome {m = 0} {t = f.count} (omega (arith, all i f h past))
            (none_listed _
            (λ s b. let at = before.every s f.outcome b in grow.fresh i f h past at.0 at.1 at.2 at.3))
            (through.counts i f h)
      ];
  every = λ s x on. through.every s x (inr on.0, (on.1, within s on.0));
}
  where
    p : List ℕ
    p = schedule_of seen.news

    left : (x : OutcomeValue) {m t c : ℕ} → m + c ≡ t → HasCount (λ s. BeforeInPart g part p s x) m
        → HasCount (λ s. ThroughInPart g part p s x) t → HasCount (GoesOn g p x) c
    left x {c = c} sum some whole =
        let rest =
        difference (λ s. BeforeInPart g part p s x) (GoesOn g p x) _ _ (apart_regions part p) some
        (same_count (λ s. ThroughInPart g part p s x) (λ s. BeforeInPart g part p s x ⊎ GoesOn g p x s) _
        (through_from part p) (through_to part p within) whole) in
        let same : rest.0 ≡ c = omega (arith, rest.2, sum) in
        rw same at rest.1
