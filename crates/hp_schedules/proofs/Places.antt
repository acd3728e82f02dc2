-- The end with an outcome, in the ends up to a place.
use Rattle.std.proofs.Common.{◌≡◌, ℕ, ◌+◌, ◌<◌, ◌≤◌, List, [], ◌∷◌, ◌++◌, length, take, Some, slice_get, ap, sym, subst, ◌∙◌, arith, inl, inr}
use Rattle.std.specs.Prelude.{sum_by}
use Rattle.std.proofs.lemmas.List.{take_all}
use Rattle.std.proofs.lemmas.List.FromFn.{map-range_with_len_more}
use Rattle.std.proofs.lemmas.List.Sums.{sum_by_push}
use Rattle.std.proofs.lemmas.Option.{same_Some}
use Rattle.hp_units.specs.declared.replies.Record.{Record}
use Rattle.hp_units.specs.declared.replies.Reply.{Reply}
use Rattle.hp_laws.proofs.Lists.{get_push_cases}
use Rattle.hp_laws.proofs.Replays.{take_one}
use Rattle.hp_schedules.specs.declared.tally.Ending.{Ending}
use Rattle.hp_schedules.specs.Notes.{AddsEnd, AddsOne, HasEndAt, HasNoEnd}
use Rattle.hp_schedules.specs.Shares.{AddsAt}
use Rattle.hp_schedules.specs.Outcomes.{OutcomeValue, replies_below, replies_to}

-- no end up to the next place has the outcome
pub none_more : (ends : List Ending) (x : OutcomeValue) (at : ℕ) (e : Ending) → HasNoEnd (take at ends) x
    → slice_get ends at ≡ Some e → (e.outcome ≡ x → ⊥) → HasNoEnd (take (at + 1) ends) x
none_more ends x at e none here differs k f h same =
    elim (get_push_cases (take at ends) e f k (rw (take_one ends at e here) at h)) [
      | inl old ↦ none k f old same
      | inr new ↦ differs (ap (λ (g : Ending). g.outcome) new.1 ∙ same)
    ]

-- none at all
pub none_all : (ends : List Ending) (x : OutcomeValue) (at : ℕ) → length ends ≤ at → HasNoEnd (take at ends) x
    → HasNoEnd ends x
none_all ends x at le none = subst (λ (xs : List Ending). HasNoEnd xs x) (take_all at ends le) none

-- the replies of one processor more
pub replies_more : (all : List (List Reply)) (answers : List Reply) (news : List Record) (cpu : ℕ)
    → all ≡ replies_below cpu news → answers ≡ replies_to cpu news
    → all ++ answers ∷ [] ≡ replies_below (cpu + 1) news
replies_more all answers news cpu so_far is =
    rw (so_far, is) (sym (map-range_with_len_more (λ (c : ℕ). replies_to c news) 0 cpu cpu (omega arith)))

-- ---- one schedule more

-- an end in a list that is shown
pub end_shown : (shown ends : List Ending) (x : OutcomeValue) (place : ℕ) → shown ≡ ends
    → HasEndAt shown x place → HasEndAt ends x place
end_shown shown ends x place same at = subst (λ (es : List Ending). HasEndAt es x place) same at

-- the end at a place counts one more
pub adds_one : (old new : List Ending) (x : OutcomeValue) (place : ℕ) → HasEndAt old x place
    → AddsAt old place 1 new → AddsOne old x new
adds_one old new x place at adds = record {
  at = place;
  entry = adds.entry;
  more = adds.more;
  here = adds.here;
  same = ap (λ (f : Ending). f.outcome) (same_Some adds.entry at.0 (sym adds.here ∙ at.1)) ∙ at.2;
  outcome_is = adds.outcome_is;
  count = adds.count_is;
  first = adds.first;
  new_is = adds.new_is;
}

-- an end is added
pub added_end : (ends : List Ending) (entry : Ending) (new : List Ending) (x : OutcomeValue)
    (schedule : List ℕ)
    → HasNoEnd ends x → entry.outcome ≡ x → entry.count ≡ 1 → entry.first.items ≡ schedule
    → new ≡ ends ++ entry ∷ [] → AddsEnd ends x schedule new
added_end ends entry new x schedule none outcome_is count first is = record {
  entry = entry;
  none = none;
  outcome_is = outcome_is;
  count = count;
  first = first;
  new_is = is;
}

pub total_first : (ends new : List Ending) (entry : Ending) (total limit : ℕ) → entry.count ≡ 1
    → new ≡ ends ++ entry ∷ [] → total ≡ sum_by (λ (f : Ending). f.count) ends → total < limit
    → (total + 1 ≡ sum_by (λ (f : Ending). f.count) new) × (total + 1 ≤ limit)
total_first ends new entry total limit one is sum less = grind (arith, sum_by_push)
