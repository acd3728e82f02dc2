-- What a search for an order found.
use Rattle.std.proofs.Common.{◌≡◌, ℕ, ◌+◌, ◌<◌, ◌≤◌, false, List, [], ◌∷◌, ◌++◌, length, Option, Some, None, refl, ap, sym, ◌∙◌, arith, inl, inr}
use Rattle.std.proofs.lemmas.Bool.{lt-leb, or_from}
use Rattle.std.proofs.lemmas.List.{length-append, length_push}
use Rattle.hp_units.specs.declared.events.Event.{Event}
use Rattle.hp_schedules.proofs.Plays.{from_news, stays_none}
use Rattle.hp_states.specs.Rooms.{is_full_after}
use Rattle.std.proofs.lemmas.Bool.{cases_lt, false≢true}
use Rattle.std.proofs.lemmas.Option.{none-some, same_Some}
use Rattle.hp_units.specs.declared.replies.Record.{Record}
use Rattle.hp_schedules.specs.LineAnswers.{answers_at}
use Rattle.hp_schedules.specs.Schedules.{Setting, next_call, plays, record_of_call}
use Rattle.hp_schedules.proofs.LineAnswers.{none_begun}
use Rattle.hp_explore.specs.Aims.{IsFirstSought, IsSearchCause}
use Rattle.hp_explore.specs.declared.fault.FindFault.{FindFault}
use Rattle.hp_explore.specs.declared.fault.FindFault.TheVariants.{HistoryFull}
use Rattle.hp_explain.specs.Explainers.{aim_of}
use Rattle.hp_explain.specs.Explaining.{Explains, IsExplainCause, IsExplained, calls_left}
use Rattle.hp_explain.specs.declared.observed.ObservedLine.{ObservedLine}

-- ---- before any call

-- no line is answered
none_answered : (g : Setting) (cpu : ℕ) → answers_at g cpu [] ≡ []
unfolding answers_at
none_answered g cpu = grind (arith, none_begun)

pub start_explained : (g : Setting) (seen : List (List ObservedLine)) → IsExplained g seen []
unfolding plays
start_explained g seen = record {
  news = [];
  played = refl;
  few = omega arith;
  answered = λ cpu line answer is. absurd (none-some answer (rw (none_answered g cpu) at is));
  timed = λ before r later is. absurd (omega (arith, simp length-append at (ap length is)));
}

-- ---- at a place that is asked

-- all lines are finished
pub order_met : (g : Setting) (seen : List (List ObservedLine)) (schedule : List ℕ) (news : List Record)
    → plays g schedule ≡ Some news → IsExplained g seen schedule → ((cpu : ℕ) → next_call g cpu news ≡ None)
    → Explains g seen schedule
order_met g seen schedule news played explained over = record {
  begun = explained;
  over = λ cpu. rw (same_Some explained.news news (sym explained.played ∙ played)) (over cpu);
}

-- ---- results

-- none explains it
pub none_found : (g : Setting) (seen later : List (List ObservedLine)) (room : ℕ) (longest : List ℕ)
    → later ≡ seen → IsFirstSought g (aim_of g later room longest) None → IsExplained g seen longest
    → ((s : List ℕ) → Explains g seen s → ⊥) × IsExplained g seen longest
    × ((s : List ℕ) → IsExplained g seen s → length s ≤ length longest)
none_found g seen later room longest same found begun = (
  λ s order. none s (inl order),
  begun,
  λ s explained. elim (cases_lt (length longest) (length s)) [
    | inl more ↦ absurd (none s (inr (explained, more)))
    | inr few ↦ few
  ],
)
  where
    none : (s : List ℕ) → (aim_of g seen room longest).sought s → ⊥
    none = rw (← same) found.0

-- ---- room

-- a record for each call
calls_many : (g : Setting) (rest : List ℕ) (h end : List Record) → from_news g h rest ≡ Some end
    → length end ≡ length h + length rest
calls_many g [] h end is =
    omega (arith, ap (λ (xs : List Record). length xs) (same_Some h end is))
calls_many g (cpu ∷ rest) h end is =
    by_call (next_call g cpu h) refl (λ r on. calls_many g rest (h ++ r ∷ []) end on)
  where
    by_call : (o : Option Event) → next_call g cpu h ≡ o
        → ((r : Record) → from_news g (h ++ r ∷ []) rest ≡ Some end
        → length end ≡ length (h ++ r ∷ []) + length rest)
        → length end ≡ length h + length (cpu ∷ rest)
    by_call None asked later = absurd (none-some end (rw (asked, stays_none g rest) at is))
    by_call (Some e) asked later =
        let r = record_of_call g h cpu e in omega (arith, later r (rw asked at is), length_push h r)

calls_of : (g : Setting) (schedule : List ℕ) (news : List Record) → plays g schedule ≡ Some news
    → length news ≡ length schedule
unfolding plays
calls_of g schedule news played = omega (arith, calls_many g schedule [] news played)

-- while fewer calls were made than there is room for, the history is not full
room_stays : (g : Setting) (news : List Record) → length news < calls_left g → is_full_after g news ≡ false
room_stays g news low =
    or_from _ _
    (lt-leb g.layout.history (length (g.start ++ news))
    (omega (arith, low, length-append g.start news)))
    (lt-leb 18446744073709551615 (g.before + length (g.start ++ news))
    (omega (arith, low, length-append g.start news)))

pub explain_cause : (g : Setting) (later : List (List ObservedLine)) (left : ℕ) (longest : List ℕ)
    (fault : FindFault)
    → IsSearchCause g (aim_of g later left longest) fault → IsExplainCause fault
explain_cause g later left longest HistoryFull full =
    let many = calls_of g full.place full.call.news full.call.played in
    false≢true (sym (room_stays g full.call.news
    (omega (arith, many, full.tried.1, full.admitted.1))) ∙ full.call.full)
explain_cause g later left longest fault full = tt
