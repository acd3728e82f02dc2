-- Explained beginnings: with one call more, and which calls and places no explained schedule has.
use Rattle.std.proofs.Common.{◌≡◌, ℕ, ◌≤◌, List, [], ◌∷◌, ◌++◌, length, Option, Some, None, slice_get, refl, ap, sym, ◌∙◌, arith, inl, inr}
use Rattle.std.specs.Prelude.{◌⊎◌}
use Rattle.std.proofs.lemmas.Bool.{cases_eq}
use Rattle.std.proofs.lemmas.List.{append-nil, append_assoc, length-append}
use Rattle.std.proofs.lemmas.Option.{none-some, same_Some}
use Rattle.hp_units.specs.declared.events.Event.{Event}
use Rattle.hp_units.specs.declared.replies.Record.{Record}
use Rattle.hp_schedules.specs.LineAnswers.{IsAnswered, answers_at}
use Rattle.hp_schedules.specs.Schedules.{Setting, next_call, plays, record_of_call}
use Rattle.hp_schedules.specs.declared.line_answers.FinishedLine.{FinishedLine}
use Rattle.hp_laws.proofs.Lists.{get_end, get_push_cases}
use Rattle.hp_schedules.proofs.Counting.{get_longer}
use Rattle.hp_schedules.proofs.LineAnswers.{grow_at, others_stay}
use Rattle.hp_schedules.proofs.Plays.{caller, from_news, plays_on, stays_none}
use Rattle.hp_explore.specs.Aims.{IsTried, MayBeSkipped}
use Rattle.hp_explore.proofs.Continued.{continued, grown}
use Rattle.hp_explain.specs.Continued.{split_in}
use Rattle.hp_explain.specs.Explainers.{aim_of}
use Rattle.hp_explain.specs.Explaining.{AreAsSeen, AreInTime, HasSeen, IsExplained, MayRun, calls_left}
use Rattle.hp_explain.specs.declared.observed.ObservedLine.{ObservedLine}

-- ---- one call more

-- a schedule makes a call after the records `h`, and goes on with the calls `rest`
pub record IsCalled (g : Setting) (h end : List Record) (cpu : ℕ) (rest : List ℕ) : Type 0 where
  pub r : Record
  pub whose : r.cpu ≡ cpu
  pub on : from_news g (h ++ r ∷ []) rest ≡ Some end

pub called : (g : Setting) (p rest : List ℕ) (cpu : ℕ) (h end : List Record) → plays g p ≡ Some h
    → plays g (p ++ cpu ∷ rest) ≡ Some end → IsCalled g h end cpu rest
called g p rest cpu h end first whole = by_call (next_call g cpu h) refl
  where
    by_call : (o : Option Event) → next_call g cpu h ≡ o → IsCalled g h end cpu rest
    by_call None asked =
        absurd (none-some end (rw (plays_on g p (cpu ∷ rest), first, asked, stays_none g rest) at whole))
    by_call (Some e) asked = record {
      r = record_of_call g h cpu e;
      whose = caller g h cpu e;
      on = rw (plays_on g p (cpu ∷ rest), first, asked) at whole;
    }

-- ---- a call that no explained schedule has

-- each sought schedule is explained
pub sought_explained : (g : Setting) (seen : List (List ObservedLine)) (room : ℕ) (longest s : List ℕ)
    → (aim_of g seen room longest).sought s → IsExplained g seen s
sought_explained g seen room longest s (inl order) = order.begun
sought_explained g seen room longest s (inr longer) = longer.0

-- the history has no room for one call more
pub full_skipped : (g : Setting) (seen : List (List ObservedLine)) (room : ℕ) (longest schedule : List ℕ)
    (cpu : ℕ)
    → room ≡ calls_left g → room ≤ length schedule
    → MayBeSkipped (aim_of g seen room longest) (schedule ++ cpu ∷ [])
full_skipped g seen room longest schedule cpu is full = (
  λ s sought on.
      let few = (sought_explained g seen room longest s sought).few in
      omega (arith, few, is, full, simp length-append at (ap length on.1)),
  λ whole. whole,
)

-- ---- the answer to the latest call

module _ (g : Setting) (seen : List (List ObservedLine)) where
  -- if the line that the call finished was answered as it was seen, so are all
  seen_more : (h : List Record) (r : Record) (f : Option FinishedLine)
      → IsAnswered (answers_at g r.cpu h) f (answers_at g r.cpu (h ++ r ∷ []))
      → ((line : FinishedLine) → f ≡ Some line → HasSeen seen r.cpu line.line line.answer)
      → AreAsSeen g seen h → AreAsSeen g seen (h ++ r ∷ [])
  seen_more h r f answered own all cpu line answer is =
      elim (cases_eq r.cpu cpu) [
        | inl same ↦ rw (← same) (by_line f answered own (rw (← same) at is))
        | inr other ↦ all cpu line answer (rw (← others_stay g cpu h r other) is)
      ]
    where
      by_line : (f : Option FinishedLine)
          → IsAnswered (answers_at g r.cpu h) f (answers_at g r.cpu (h ++ r ∷ []))
          → ((line : FinishedLine) → f ≡ Some line → HasSeen seen r.cpu line.line line.answer)
          → slice_get (answers_at g r.cpu (h ++ r ∷ [])) line ≡ Some answer → HasSeen seen r.cpu line answer
      by_line None same own is = all r.cpu line answer (rw (← same) is)
      by_line (Some f) new own is =
          elim (get_push_cases (answers_at g r.cpu h) f.answer answer line (rw (← new.1) is)) [
            | inl before ↦ all r.cpu line answer before
            | inr last ↦ rw (← last.1, last.0, ← new.0) (own f refl)
          ]

  timed_more : (h : List Record) (r : Record) → MayRun g seen h r.cpu → AreInTime g seen h
      → AreInTime g seen (h ++ r ∷ [])
  timed_more h r runs all before s later is = by_place (split_in h (r ∷ []) before later s is)
    where
      by_place : ((rest : List Record) × (h ≡ before ++ s ∷ rest))
          ⊎ ((mid : List Record) × (before ≡ h ++ mid) × (r ∷ [] ≡ mid ++ s ∷ later))
          → MayRun g seen before s.cpu
      by_place (inl within) = all before s within.0 within.1
      by_place (inr ([], here, end)) = let last : r ≡ s = cc in rw (here, append-nil, ← last) runs
      by_place (inr (x ∷ mid, here, end)) = absurd (omega (arith, simp length-append at (ap length end)))

-- the place after a call that was tried
pub record IsReached (g : Setting) (seen : List (List ObservedLine)) (news : List Record) : Type 0 where
  pub h : List Record
  pub r : Record
  pub is : news ≡ h ++ r ∷ []
  pub answered : AreAsSeen g seen h
  pub timed : AreInTime g seen h
  pub runs : MayRun g seen h r.cpu

-- ---- a place that is asked

module _ (g : Setting) (seen : List (List ObservedLine)) (room : ℕ) (longest schedule : List ℕ)
    (news : List Record) (played : plays g schedule ≡ Some news) where
  -- a line that may not run yet makes no call
  pub run_skipped : (cpu : ℕ) → (MayRun g seen news cpu → ⊥)
      → MayBeSkipped (aim_of g seen room longest) (schedule ++ cpu ∷ [])
  run_skipped cpu waits = (
    λ s sought on.
        let e = sought_explained g seen room longest s sought in
        let past = called g schedule on.0 cpu news e.news played
        (rw (← append_assoc schedule (cpu ∷ []) on.0, ← on.1) e.played) in
        let later = grown g on.0 (news ++ past.r ∷ []) e.news past.on in
        waits (rw (← past.whose)
        (e.timed news past.r later.0 (later.1 ∙ append_assoc news (past.r ∷ []) later.0))),
    λ whole. whole,
  )

  reached : (t : IsTried (aim_of g seen room longest) schedule)
      → (e : IsReached g seen news) × (e.r.cpu ≡ t.cpu)
  reached t =
      let one = called g t.before [] t.cpu t.from.0.news news t.from.0.played (rw (← t.longer) played) in
      let at = same_Some t.tried.0.0 t.from.0.news (sym t.tried.0.1 ∙ t.from.0.played) in (
        record {
          h = t.from.0.news;
          r = one.r;
          is = sym (same_Some _ news one.on);
          answered = t.from.0.answered;
          timed = t.from.0.timed;
          runs = rw (one.whose, ← at) t.tried.0.2;
        },
        one.whose,
      )

  -- the place is explained if the line that the call finished was answered as it was seen
  place_explained : (f : Option FinishedLine) → length schedule ≤ calls_left g → (e : IsReached g seen news)
      → ((before : List Record) (r : Record) → news ≡ before ++ r ∷ []
      → IsAnswered (answers_at g r.cpu before) f (answers_at g r.cpu news))
      → ((line : FinishedLine) → f ≡ Some line → HasSeen seen e.r.cpu line.line line.answer)
      → IsExplained g seen schedule
  place_explained f few e answered own = record {
    news = news;
    played = played;
    few = few;
    answered = rw e.is (seen_more g seen e.h e.r f (rw e.is at (answered e.h e.r e.is)) own e.answered);
    timed = rw e.is (timed_more g seen e.h e.r e.runs e.timed);
  }

  -- and if not, no explained schedule continues from it
  place_skipped : (line : FinishedLine) → (e : IsReached g seen news)
      → IsAnswered (answers_at g e.r.cpu e.h) (Some line) (answers_at g e.r.cpu news)
      → (HasSeen seen e.r.cpu line.line line.answer → ⊥)
      → MayBeSkipped (aim_of g seen room longest) schedule
  place_skipped line e answered other = (
    λ s sought on.
        let x = sought_explained g seen room longest s sought in
        let more = continued g schedule on.0 news x.news played (rw (← on.1) x.played) in
        let later = grow_at g e.r.cpu news more.0 in
        other (x.answered e.r.cpu line.line line.answer
        (rw (more.1, later.1, answered.1, answered.0)
        (get_longer (answers_at g e.r.cpu e.h ++ line.answer ∷ []) later.0 (length (answers_at g e.r.cpu e.h))
        line.answer (get_end (answers_at g e.r.cpu e.h) line.answer)))),
    λ whole. whole,
  )

  -- the answer is tested by the latest call's processor
  pub asked_explained : (f : Option FinishedLine) → (t : IsTried (aim_of g seen room longest) schedule)
      → ((before : List Record) (r : Record) → news ≡ before ++ r ∷ []
      → IsAnswered (answers_at g r.cpu before) f (answers_at g r.cpu news))
      → ((line : FinishedLine) → f ≡ Some line → HasSeen seen t.cpu line.line line.answer)
      → (aim_of g seen room longest).admits schedule
  asked_explained f t answered own =
      let e = reached t in (
        place_explained f (omega (arith, t.tried.1, t.from.1, simp length-append at (ap length t.longer))) e.0
            answered (λ line same. rw e.1 (own line same)),
        t.from.1,
      )

  pub asked_skipped : (line : FinishedLine) → (t : IsTried (aim_of g seen room longest) schedule)
      → ((before : List Record) (r : Record) → news ≡ before ++ r ∷ []
      → IsAnswered (answers_at g r.cpu before) (Some line) (answers_at g r.cpu news))
      → (HasSeen seen t.cpu line.line line.answer → ⊥)
      → MayBeSkipped (aim_of g seen room longest) schedule
  asked_skipped line t answered other =
      let e = reached t in
      place_skipped line e.0 (answered e.0.h e.0.r e.0.is) (λ has. other (rw e.1 at has))
