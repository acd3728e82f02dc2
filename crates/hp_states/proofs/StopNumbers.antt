-- What the numbers of a walk's places mean, as it goes on and back, and that places with equal
-- numbers join.
use Rattle.std.proofs.Common.{◌≡◌, ℕ, Bool, List, [], ◌∷◌, ◌++◌, length, map, option_to_list, reverse, cond, Option, Some, None, refl, ap, sym, subst, ◌∙◌, arith, inl, inr}
use Rattle.std.specs.Prelude.{unwrap_or}
use Rattle.std.proofs.lemmas.Bool.{cases_Bool}
use Rattle.std.proofs.lemmas.List.{reverse-append, append-nil, length_push, same_from_push}
use Rattle.hp_memory.specs.Memory.{MemoryValue}
use Rattle.hp_units.specs.History.{net_of, value_of}
use Rattle.hp_units.specs.LayoutParts.{LayoutParts}
use Rattle.hp_units.specs.Memory.{Memory}
use Rattle.hp_units.specs.declared.replies.Record.{Record}
use Rattle.hp_schedules.specs.Alike.{AreJoined, is_closed}
use Rattle.hp_states.specs.Interned.{KeepNumbers}
use Rattle.hp_laws.specs.Renumbered.{IsOneToOne, renumbered}
use Rattle.hp_laws.proofs.Alike.{memories_equal}
use Rattle.hp_schedules.specs.Continuing.{AreJoinedBy}
use Rattle.hp_schedules.specs.Openings.{NumberedOpening, Opening, renumbered_opening}
use Rattle.hp_schedules.specs.Schedules.{Setting}
use Rattle.hp_states.specs.Codes.{IsCoded, KeepCodes}
use Rattle.hp_states.specs.Numbered.{IsNumbered}
use Rattle.hp_states.specs.Stops.{AreNumbersAt, AreSameStops, AreStops, AreStopsAt, KeepStops, StopsValue}
use Rattle.hp_states.specs.declared.stops.Stop.{Stop}
use Rattle.hp_schedules.proofs.ClosedNets.{closed_none_sole}
use Rattle.hp_states.proofs.Numberings.{keep_same}
use Rattle.hp_states.proofs.Coded.{coded_states_are_same}
use Rattle.hp_states.proofs.Numbered.{named_once, number_kept, state_kept}

-- ---- numbers that are kept

stops_kept : (at : List Record → ℕ → ℕ) (g : Setting) (codes later : List (List ℕ))
    (old new : List (List NumberedOpening)) (news : List Record) (stops : List Stop)
    → KeepCodes codes later → KeepNumbers old new → AreStops at g codes old news stops
    → AreStops at g later new news stops
stops_kept at g codes later old new news [] known keep are = tt
stops_kept at g codes later old new news (stop ∷ stops) known keep are = (
  number_kept (at news) g codes later old new news stop.openings known keep are.0,
  state_kept (at news) g codes later news stop.state known are.1,
  λ before r is. stops_kept at g codes later old new before stops known keep (are.2 before r is),
)

-- numbers keep their meaning as the tables grow
pub numbers_kept : (p : ℕ → ℕ) (g : Setting) (news : List Record) (old new : StopsValue)
    (state openings : ℕ)
    → KeepStops old new → AreNumbersAt p g news old state openings → AreNumbersAt p g news new state openings
numbers_kept p g news old new state openings keep are = search (arith, state_kept, number_kept)

pub keep_none : (s : StopsValue) → KeepStops s s
keep_none s = record { codes = λ n c h. h; lists = λ n xs h. h }

pub keep_same_stops : (old new : StopsValue) → AreSameStops old new → KeepStops old new
keep_same_stops old new same = grind (arith, keep_same)

-- ---- where a walk begins

pub begun_at : (at : List Record → ℕ → ℕ) (g : Setting) (closed : Bool) → closed ≡ is_closed g.start
    → AreStopsAt at g [] (record {
      codes = [];
      lists = [] ∷ [];
      here = record { openings = cond closed (Some 0) None; state = None };
      before = [];
    })
begun_at at g closed told = (
  elim (cases_Bool closed) [
    | inl set ↦ rw set ([], [], refl, tt, rw append-nil (closed_none_sole g.start (sym told ∙ set)))
    | inr unset ↦ rw unset tt
  ],
  tt,
  λ before r longer. absurd (omega (arith, length_push before r, ap length longer)),
)

-- ---- one call more

module _ (at : List Record → ℕ → ℕ) (g : Setting) where
  -- the places that are known, with the new one first
  stops_on : (codes : List (List ℕ))
      (old new : List (List NumberedOpening)) (news : List Record) (r : Record) (stops : List Stop)
      (number : Option ℕ) → KeepNumbers old new → AreStops at g codes old news stops
      → IsNumbered (at (news ++ r ∷ [])) g codes new (news ++ r ∷ []) number
      → AreStops at g codes new (news ++ r ∷ []) (record { openings = number; state = None } ∷ stops)
  stops_on codes old new news r stops number keep are one = grind (arith, same_from_push, stops_kept)

  pub went_on : (news : List Record) (r : Record) (old new : StopsValue) (number : Option ℕ)
      → new.codes ≡ old.codes → KeepNumbers old.lists new.lists
      → new.here ≡ record { openings = number; state = None } → new.before ≡ old.before ++ old.here ∷ []
      → IsNumbered (at (news ++ r ∷ [])) g old.codes new.lists (news ++ r ∷ []) number
      → AreStopsAt at g news old → AreStopsAt at g (news ++ r ∷ []) new
  went_on news r old new number codes lists here_is before_is one are =
      let stops : new.here ∷ reverse new.before
      ≡ record { openings = number; state = None } ∷ old.here ∷ reverse old.before =
      rw (here_is, before_is, reverse-append old.before (old.here ∷ [])) in
      subst (λ (all : List (List ℕ)).
      AreStops at g all new.lists (news ++ r ∷ []) (new.here ∷ reverse new.before)) (sym codes)
      (subst (AreStops at g old.codes new.lists (news ++ r ∷ [])) (sym stops)
      (stops_on old.codes old.lists new.lists news r (old.here ∷ reverse old.before) number lists are one))

  -- ---- and one less

  stops_back : (codes : List (List ℕ))
      (lists : List (List NumberedOpening)) (news : List Record) (r : Record) (here : Stop)
      (before rest : List Stop) (popped : Option Stop)
      → before ≡ rest ++ option_to_list popped → (popped ≡ None → rest ≡ [])
      → AreStops at g codes lists (news ++ r ∷ []) (here ∷ reverse before) → AreStops at g codes lists news
      (unwrap_or popped (record { openings = None; state = None }) ∷ reverse rest)
  stops_back codes lists news r here before rest None is none are =
      rw (none refl) (tt, tt, λ b q same. tt)
  stops_back codes lists news r here before rest (Some stop) is none are =
      rw (is, reverse-append rest (stop ∷ [])) at (are.2 news r refl)

  pub went_back : (news : List Record) (r : Record)
      (old new : StopsValue) (rest : List Stop) (popped : Option Stop)
      → new.codes ≡ old.codes → new.lists ≡ old.lists → old.before ≡ rest ++ option_to_list popped
      → (popped ≡ None → rest ≡ [])
      → new.here ≡ unwrap_or popped (record { openings = None; state = None }) → new.before ≡ rest
      → AreStopsAt at g (news ++ r ∷ []) old → AreStopsAt at g news new
  went_back news r old new rest popped codes lists is none here_is before_is are =
      let all = unwrap_or popped (record { openings = None; state = None }) ∷ reverse rest in
      let stops : new.here ∷ reverse new.before ≡ all = rw (here_is, before_is) in
      subst (AreStops at g new.codes new.lists news) (sym stops)
      (stops_kept at g old.codes new.codes old.lists new.lists news all (keep_same old.codes new.codes codes)
      (keep_same old.lists new.lists lists)
      (stops_back old.codes old.lists news r old.here old.before rest popped is none are))

  -- ---- a state that gets a number

  pub coded_more : (news : List Record) (old : StopsValue) (codes : List (List ℕ))
      → KeepCodes old.codes codes → AreStopsAt at g news old
      → AreStopsAt at g news (record old { codes = codes })
  coded_more news old codes keep are = search (arith, stops_kept)

  pub state_known : (news : List Record) (old new : StopsValue) (memory : MemoryValue) (number : ℕ)
      → KeepCodes old.codes new.codes → new.lists ≡ old.lists
      → new.here ≡ record { openings = old.here.openings; state = Some number } → new.before ≡ old.before
      → IsCoded memory.layout new.codes number (renumbered (at news) memory.state)
      → memory ≡ record { layout = g.layout; state = value_of g.layout g.base (g.start ++ news) }
      → AreStopsAt at g news old → AreStopsAt at g news new
  state_known news old new memory number codes lists here_is before_is coded memory_is are =
      let kept =
      stops_kept at g old.codes new.codes old.lists new.lists news (old.here ∷ reverse old.before) codes
      (keep_same old.lists new.lists lists) are in
      rw (here_is, before_is) (kept.0, rw memory_is at coded, kept.2)

-- ---- places with equal numbers

-- with the numbers of their operations, their states are the same, and Cancels lead back to the same states
pub openings_join : (p q : ℕ → ℕ) (g : Setting) (s : StopsValue) (h k : List Record) (openings : ℕ)
    → renumbered p (value_of g.layout g.base (g.start ++ h))
    ≡ renumbered q (value_of g.layout g.base (g.start ++ k))
    → IsNumbered p g s.codes s.lists h (Some openings) → IsNumbered q g s.codes s.lists k (Some openings)
    → AreJoinedBy p q g.layout g.base (net_of (g.start ++ h)) (net_of (g.start ++ k))
unfolding value_of
openings_join p q g s h k openings state first second = record {
  first_openings = first.1;
  second_openings = second.1;
  first_open = first.4;
  second_open = second.4;
  openings = grind (arith, named_once);
  state = state;
}

pub numbers_join : (p q : ℕ → ℕ) (g : Setting) (s : StopsValue) (h k : List Record) (state openings : ℕ)
    → AreNumbersAt p g h s state openings → AreNumbersAt q g k s state openings
    → AreJoinedBy p q g.layout g.base (net_of (g.start ++ h)) (net_of (g.start ++ k))
numbers_join p q g s h k state openings first second = search (arith, openings_join, coded_states_are_same)

-- by the same numbers for both, they are the same
openings_equal : (p : ℕ → ℕ) → IsOneToOne p → (os us : List Opening)
    → map (renumbered_opening p) os ≡ map (renumbered_opening p) us → os ≡ us
openings_equal p one [] [] same = refl
openings_equal p one (o ∷ os) (u ∷ us) same =
    let first : renumbered_opening p o ≡ renumbered_opening p u = cc in
    let rest : map (renumbered_opening p) os ≡ map (renumbered_opening p) us = cc in
    grind (arith, one o.op u.op, memories_equal p one o.memory u.memory, openings_equal p one os us rest)
openings_equal p one _ _ same = absurd cc

pub joined_equal : (p : ℕ → ℕ) → IsOneToOne p → (l : LayoutParts) (base : Memory) (a b : List Record)
    → AreJoinedBy p p l base a b → AreJoined l base a b
joined_equal p one l base a b j = grind (arith, openings_equal, memories_equal)
