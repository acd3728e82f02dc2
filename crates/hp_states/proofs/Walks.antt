-- The walk over the schedules of a part, place by place.
use Rattle.std.proofs.Common.{◌≡◌, ℕ, ◌+◌, true, List, [], ◌∷◌, ◌++◌, length, Some, None, refl, sym, subst, ◌∙◌, arith, inl, inr}
use Rattle.std.specs.Prelude.{sum_by}
use Rattle.std.proofs.lemmas.List.{append-nil}
use Rattle.hp_units.specs.declared.events.Event.{Event}
use Rattle.hp_units.specs.declared.replies.Record.{Record}
use Rattle.hp_schedules.specs.Outcomes.{OutcomeValue}
use Rattle.hp_schedules.specs.declared.tally.Ending.{Ending}
use Rattle.hp_schedules.specs.Ends.{AreCounted}
use Rattle.hp_schedules.specs.Orders.{HasMoreThan}
use Rattle.hp_schedules.specs.Notes.{IsNoted}
use Rattle.hp_schedules.specs.Parts.{EndsInPart, IsCompleteInPart, IsOfPart, PartValue}
use Rattle.hp_schedules.specs.Schedules.{Setting, outcome_after, next_call, plays}
use Rattle.hp_states.specs.Walks.{BeforeInPart, IsOverBelow, ThroughInPart}
use Rattle.hp_schedules.proofs.Counts.{With, more_than, none_counted, noted, same_counted}
use Rattle.hp_schedules.proofs.Regions.{before_all, before_first, before_later, before_longer, before_next, extends_before, not_before_itself, not_before_longer}
use Rattle.hp_schedules.proofs.Plays.{none_through, only_this, goes_on, complete, asks_within}

-- before the first place there is none
pub walk_begins : (g : Setting) (part : PartValue) → AreCounted (BeforeInPart g part []) []
walk_begins g part = none_counted (BeforeInPart g part []) (λ s x h. h.0)

-- all are up to the last continuation of the first place
pub walk_ends : (g : Setting) (part : PartValue) (ends : List Ending)
    → AreCounted (ThroughInPart g part []) ends → AreCounted (EndsInPart g part) ends
walk_ends g part ends ok =
    same_counted (ThroughInPart g part []) (EndsInPart g part) ends (λ s x h. h.1)
    (λ s x h. (inr (s, refl), h)) ok

-- the counts are the same where the part's schedules stand alike
pub alike : {g : Setting} (part : PartValue) {A B : List ℕ → Type 0} {ends : List Ending}
    → AreCounted (λ s x. A s × EndsInPart g part s x) ends
    → ((s : List ℕ) (x : OutcomeValue) → EndsInPart g part s x → A s → B s)
    → ((s : List ℕ) (x : OutcomeValue) → EndsInPart g part s x → B s → A s)
    → AreCounted (λ s x. B s × EndsInPart g part s x) ends
alike {g = g} part {A = A} {B = B} ok to from =
    same_counted (λ s x. A s × EndsInPart g part s x) (λ s x. B s × EndsInPart g part s x) _
    (λ s x h. (to s x h.1 h.0, h.1)) (λ s x h. (from s x h.1 h.0, h.1)) ok

module _ (g : Setting) (part : PartValue) (p : List ℕ) where
  -- from a place to its first continuation
  pub walk_down : (ends : List Ending)
      → AreCounted (BeforeInPart g part p) ends → AreCounted (BeforeInPart g part (p ++ 0 ∷ [])) ends
  walk_down ends ok = alike part ok (λ s x on. before_longer s p (0 ∷ [])) (λ s x on. before_first s p)

  -- past a continuation that was walked
  pub walk_past : (cpu : ℕ) (ends : List Ending) → AreCounted (ThroughInPart g part (p ++ cpu ∷ [])) ends
      → AreCounted (BeforeInPart g part (p ++ (cpu + 1) ∷ [])) ends
  walk_past cpu ends ok =
      alike part ok
      (λ s x on a. elim a [
        | inl b ↦ before_later s p cpu (cpu + 1) (omega arith) b
        | inr e ↦ extends_before s p cpu (cpu + 1) (omega arith) e
      ])
      (λ s x on. before_next s p cpu)

  -- past a continuation that there is not
  pub walk_over : (news : List Record) (cpu : ℕ) (ends : List Ending)
      → plays g p ≡ Some news → next_call g cpu news ≡ None
      → AreCounted (BeforeInPart g part (p ++ cpu ∷ [])) ends
      → AreCounted (BeforeInPart g part (p ++ (cpu + 1) ∷ [])) ends
  walk_over news cpu ends played over ok =
      alike part ok (λ s x on. before_later s p cpu (cpu + 1) (omega arith))
      (λ s x on b. elim (before_next s p cpu b)
      [ inl l ↦ l | inr e ↦ absurd (none_through g p news cpu s x played over e on.0) ])

  -- after the last continuation, where there was one
  pub walk_up : (news : List Record) (cpu : ℕ) (event : Event) (ends : List Ending)
      → plays g p ≡ Some news → next_call g cpu news ≡ Some event
      → AreCounted (BeforeInPart g part (p ++ length g.scripts ∷ [])) ends
      → AreCounted (ThroughInPart g part p) ends
  walk_up news cpu event ends played asked ok =
      alike part ok (λ s x on. before_all s p (length g.scripts))
      (λ s x on a. elim a [
        | inl b ↦ before_longer s p (length g.scripts ∷ []) b
        | inr e ↦ (let next = goes_on g p news cpu event s x played asked e on.0 in
            extends_before s p next.0 (length g.scripts) next.1 next.2)
      ])

  -- where no script asks for anything those before the last continuation are those before the place
  pub walk_here : (news : List Record) (ends : List Ending)
      → plays g p ≡ Some news → ((cpu : ℕ) → next_call g cpu news ≡ None)
      → AreCounted (BeforeInPart g part (p ++ length g.scripts ∷ [])) ends
      → AreCounted (BeforeInPart g part p) ends
  walk_here news ends played over ok =
      alike part ok
      (λ s x on b. elim (before_all s p (length g.scripts) b) [
        | inl l ↦ l
        | inr e ↦ absurd (not_before_longer p (length g.scripts ∷ [])
            (rw (only_this g p news s x played over e on.0).0 at b))
      ])
      (λ s x on. before_longer s p (length g.scripts ∷ []))

  -- and one more, where it is the part's
  pub walk_notes : (news : List Record) (old new : List Ending)
      → plays g p ≡ Some news → ((cpu : ℕ) → next_call g cpu news ≡ None) → IsOfPart (length g.scripts) part p
      → AreCounted (BeforeInPart g part (p ++ length g.scripts ∷ [])) old
      → IsNoted old (outcome_after g news) p new → AreCounted (ThroughInPart g part p) new
  walk_notes news old new played over of ok adds =
      same_counted (With (BeforeInPart g part p) p (outcome_after g news)) (ThroughInPart g part p) new
      (λ s x h. elim h [
        | inl b ↦ (inl b.0, b.1)
        | inr here ↦ (
          inr ([], here.0 ∙ sym (append-nil p)),
          rw (here.0, here.1) (complete g p news played over, of),
        )
      ])
      (λ s x h. elim h.0 [ inl b ↦ inl (b, h.1) | inr e ↦ inr (only_this g p news s x played over e h.1.0) ])
      (noted (BeforeInPart g part p) p (outcome_after g news) old new
      (walk_here news old played over ok) (λ s x h. h.0) adds)

  -- or none more, where it is another part's
  pub walk_apart : (news : List Record) (ends : List Ending)
      → plays g p ≡ Some news → ((cpu : ℕ) → next_call g cpu news ≡ None)
      → (IsOfPart (length g.scripts) part p → ⊥)
      → AreCounted (BeforeInPart g part (p ++ length g.scripts ∷ [])) ends
      → AreCounted (ThroughInPart g part p) ends
  walk_apart news ends played over apart ok =
      alike part (walk_here news ends played over ok) (λ s x on. inl)
      (λ s x on a. elim a [
        | inl b ↦ b
        | inr e ↦ absurd (apart (rw (only_this g p news s x played over e on.0).0 at on.1))
      ])

  -- so there are more than those before a complete one
  pub walk_exceeds : (ends : List Ending) (limit : ℕ)
      → IsCompleteInPart g part p → AreCounted (BeforeInPart g part p) ends
      → sum_by (λ (e : Ending). e.count) ends ≡ limit → HasMoreThan (IsCompleteInPart g part) limit
  walk_exceeds ends limit next ok sum =
      subst (HasMoreThan (IsCompleteInPart g part)) sum
      (more_than (λ s. (x : OutcomeValue) × BeforeInPart g part p s x) (IsCompleteInPart g part)
      (sum_by (λ (e : Ending). e.count) ends) p (λ h. not_before_itself p h.1.0) (λ s h. (h.0, h.1.1)) next
      ok.total)

-- all scripts are at their ends where those of the scripts' processors are
pub over_all : (g : Setting) (news : List Record) → IsOverBelow g news (length g.scripts) true → (cpu : ℕ)
    → next_call g cpu news ≡ None
over_all g news below cpu = grind (arith, asks_within)
