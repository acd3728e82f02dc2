-- The room for the calls of a walk, and the order of its ends, from place to place.
use Rattle.std.proofs.Common.{◌≡◌, ℕ, ◌+◌, false, List, [], ◌∷◌, ◌++◌, length, Option, Some, None, slice_get, refl, ap, sym, ◌∙◌, arith, inl, inr}
use Rattle.std.specs.Prelude.{◌⊎◌}
use Rattle.std.proofs.lemmas.List.{append-nil, append_assoc, same_from_push}
use Rattle.std.proofs.lemmas.Option.{none-some, slice_get_within}
use Rattle.hp_laws.proofs.Lists.{get_push_cases}
use Rattle.hp_units.specs.declared.events.Event.{Event}
use Rattle.hp_units.specs.declared.replies.Record.{Record}
use Rattle.hp_schedules.specs.Alike.{AreAlike, AreMergeable}
use Rattle.hp_schedules.specs.Ends.{AreCounted, AreInOrder}
use Rattle.hp_states.specs.Rooms.{HasNoRoom, is_full_after}
use Rattle.hp_schedules.specs.Notes.{IsNoted}
use Rattle.hp_schedules.specs.Orders.{Extends}
use Rattle.hp_schedules.specs.Outcomes.{OutcomeValue}
use Rattle.hp_schedules.specs.Parts.{PartValue}
use Rattle.hp_schedules.specs.Schedules.{Setting, next_call, plays}
use Rattle.hp_schedules.specs.Shares.{AddsCounts}
use Rattle.hp_states.specs.Walks.{BeforeInPart, HasPartRoomBefore, HasPartRoomFrom, HasRoomFrom, IsPartWalkedBefore, IsPartWalkedThrough, ThroughInPart}
use Rattle.hp_schedules.specs.declared.tally.Ending.{Ending}
use Rattle.hp_schedules.proofs.Alike.{all_calls, call_same, played_alike}
use Rattle.hp_schedules.proofs.Counts.{get_set_cases}
use Rattle.hp_states.proofs.Grown.{was_end}
use Rattle.hp_states.proofs.Merges.{turned}
use Rattle.hp_states.proofs.OfPart.{NoneOfPart}
use Rattle.hp_schedules.proofs.Plays.{asks_within, plays_on, plays_push, stops}
use Rattle.hp_states.proofs.Walks.{alike, walk_begins, walk_down, walk_over, walk_past}
use Rattle.hp_schedules.proofs.Regions.{before_first, before_longer, before_next, extends_before, extends_cons}

-- ---- one call

-- a schedule with one call more is another, or goes on from it before that call
pub push_extends : (s q rest : List ℕ) (c : ℕ) → s ++ c ∷ [] ≡ q ++ rest → (s ++ c ∷ [] ≡ q) ⊎ Extends s q
push_extends s [] rest c is = inr (s, refl)
push_extends [] (d ∷ []) rest c is = inl (cc)
push_extends [] (d ∷ e ∷ q) rest c is = absurd cc
push_extends (a ∷ s) (d ∷ q) rest c is =
    let first : a ≡ d = cc in
    let others : s ++ c ∷ [] ≡ q ++ rest = cc in
    elim (push_extends s q rest c others)
    [ inl same ↦ inl (cc) | inr on ↦ inr (extends_cons d a s q first on) ]

-- a call that is made leaves none that has no room there
pub was_room : (g : Setting) (p : List ℕ) (news : List Record) (s : List ℕ) → plays g p ≡ Some news
    → is_full_after g news ≡ false → s ≡ p → HasNoRoom g s → ⊥
was_room g p news s played room same h = grind (arith)

-- none goes on by a processor whose script asks for nothing
none_over : (g : Setting) (p : List ℕ) (news : List Record) (cpu : ℕ) (s : List ℕ) (h : HasNoRoom g s)
    → plays g p ≡ Some news → next_call g cpu news ≡ None → Extends (s ++ h.cpu ∷ []) (p ++ cpu ∷ []) → ⊥
none_over g p news cpu s h played over on =
    cc (
      on.1,
      append_assoc p (cpu ∷ []) on.0,
      stops g p on.0 news cpu played over,
      plays_push g s h.news h.cpu h.event h.played h.asked,
    )

-- those of a place stand before the turn after all processors
room_from : (g : Setting) (part : PartValue) (p : List ℕ) (news : List Record) → plays g p ≡ Some news
    → HasPartRoomBefore g part (p ++ length g.scripts ∷ []) → HasPartRoomFrom g part p
room_from g part p news played room s h comes on = by_rest on.0 on.1
  where
    here : s ≡ p → ⊥
    here is =
        room s h comes (extends_before (s ++ h.cpu ∷ []) p h.cpu (length g.scripts)
        (asks_within g h.news h.cpu h.event h.asked)
        ([], ap (λ (t : List ℕ). t ++ h.cpu ∷ []) is ∙ sym (append-nil (p ++ h.cpu ∷ []))))

    by_next : (c : ℕ) (rest : List ℕ) → s ≡ p ++ c ∷ rest → (o : Option Event) → next_call g c news ≡ o → ⊥
    by_next c rest is None over =
        none-some h.news (sym (ap (plays g) is ∙ stops g p rest news c played over) ∙ h.played)
    by_next c rest is (Some e) asks =
        room s h comes
        (extends_before (s ++ h.cpu ∷ []) p c (length g.scripts) (asks_within g news c e asks)
        (rest ++ h.cpu ∷ [], rw is (simp append_assoc)))

    by_rest : (rest : List ℕ) → s ≡ p ++ rest → ⊥
    by_rest [] is = here (is ∙ append-nil p)
    by_rest (c ∷ rest) is = by_next c rest is (next_call g c news) refl

-- ---- the turns

pub done_begins : (g : Setting) (part : PartValue) → IsPartWalkedBefore g part [] []
done_begins g part = grind (arith, walk_begins)

module _ (g : Setting) (part : PartValue) (p : List ℕ) where
  pub done_down : (ends : List Ending)
      → IsPartWalkedBefore g part p ends → IsPartWalkedBefore g part (p ++ 0 ∷ []) ends
  done_down ends w = record {
    counted = walk_down g part p ends w.counted;
    ordered = w.ordered;
    room = λ s h comes b. w.room s h comes (before_first (s ++ h.cpu ∷ []) p b);
  }

  pub done_over : (news : List Record) (cpu : ℕ) (ends : List Ending)
      → plays g p ≡ Some news → next_call g cpu news ≡ None → IsPartWalkedBefore g part (p ++ cpu ∷ []) ends
      → IsPartWalkedBefore g part (p ++ (cpu + 1) ∷ []) ends
  done_over news cpu ends played over w = record {
    counted = walk_over g part p news cpu ends played over w.counted;
    ordered = w.ordered;
    room =
        λ s h comes b. elim (before_next (s ++ h.cpu ∷ []) p cpu b)
        [ inl l ↦ w.room s h comes l | inr e ↦ none_over g p news cpu s h played over e ];
  }

  pub done_past : (news : List Record) (cpu : ℕ) (ends : List Ending)
      → plays g p ≡ Some news → is_full_after g news ≡ false → IsPartWalkedThrough g part (p ++ cpu ∷ []) ends
      → IsPartWalkedBefore g part (p ++ (cpu + 1) ∷ []) ends
  done_past news cpu ends played roomy w = record {
    counted = walk_past g part p cpu ends w.counted;
    ordered = w.ordered;
    room =
        λ s h comes b. elim (before_next (s ++ h.cpu ∷ []) p cpu b) [
          | inl l ↦ w.room s h comes l
          | inr e ↦ elim (push_extends s (p ++ cpu ∷ []) e.0 h.cpu e.1) [
            | inl same ↦ was_room g p news s played roomy (same_from_push s p h.cpu cpu same).0 h
            | inr on ↦ w.onward s h comes on
          ]
        ];
  }

  pub done_up : (news : List Record) (old new : List Ending)
      → plays g p ≡ Some news → IsPartWalkedBefore g part (p ++ length g.scripts ∷ []) old
      → AreCounted (ThroughInPart g part p) new → AreInOrder new → IsPartWalkedThrough g part p new
  done_up news old new played w counted ordered = record {
    counted = counted;
    ordered = ordered;
    room = λ s h comes b. w.room s h comes (before_longer (s ++ h.cpu ∷ []) p (length g.scripts ∷ []) b);
    onward = room_from g part p news played w.room;
  }

  -- a place from which no schedule of the part goes on
  pub done_apart : (ends : List Ending)
      → NoneOfPart (length g.scripts) part p → IsPartWalkedBefore g part p ends
      → IsPartWalkedThrough g part p ends
  done_apart ends none w = record {
    counted =
        alike part w.counted (λ s x on. inl)
        (λ s x on h. elim h [ inl b ↦ b | inr e ↦ absurd (none s e (inr on.1)) ]);
    ordered = w.ordered;
    room = w.room;
    onward = λ s h comes on. none s on comes;
  }

-- ---- the order of the ends

-- where each has the first schedule of one that stood there
ordered_like : (old new : List Ending) → AreInOrder old
    → ((i : ℕ) (f : Ending) → slice_get new i ≡ Some f
    → (e : Ending) × (slice_get old i ≡ Some e) × (f.first.items ≡ e.first.items))
    → AreInOrder new
ordered_like old new ordered was i j e f less h k = grind (arith)

-- counts are added
pub ordered_added : (old new : List Ending) (counts : List ℕ) → AreInOrder old → AddsCounts old counts new
    → AreInOrder new
ordered_added old new counts ordered adds =
    ordered_like old new ordered (λ i f h. let e = was_end adds i f h in (e.0, e.1, e.3))

-- a schedule is noted under an end, or under one of its own after all that stand before it
pub ordered_noted : (g : Setting) (part : PartValue) (p : List ℕ) (old new : List Ending) (x : OutcomeValue)
    → AreInOrder old → AreCounted (BeforeInPart g part p) old → IsNoted old x p new → AreInOrder new
ordered_noted g part p old new x ordered counted noted = elim noted [
  | inl one ↦ grind (arith, ordered_like, get_set_cases)
  | inr first ↦ grind (arith, get_push_cases, slice_get_within)
]

-- ---- a place that goes on like another

pub room_alike : (g : Setting) (p q : List ℕ) (h k : List Record) → AreMergeable g.scripts
    → plays g p ≡ Some h → plays g q ≡ Some k → AreAlike g h k → HasRoomFrom g p → HasRoomFrom g q
room_alike g p q h k all first second alike room s full on =
    let other =
    played_alike g on.0 k h full.news all (turned g h k alike) (cc (plays_on g q on.0)) in
    room (p ++ on.0)
    (record {
      news = other.other;
      cpu = full.cpu;
      event = full.event;
      played = cc (plays_on g p on.0);
      asked = sym (call_same g full.news other.other full.cpu all other.alike) ∙ full.asked;
      full = rw (← all_calls g full.news other.other other.alike) full.full;
    })
    (on.0, refl)
