-- The calls that a search is done with, from turn to turn, and the room for those of its schedule.
use Rattle.std.proofs.Common.{◌≡◌, ℕ, ◌+◌, ◌<◌, List, [], ◌∷◌, ◌++◌, length, Some, None, ap, sym, subst, ◌∙◌, arith, inl, inr, false}
use Rattle.std.proofs.lemmas.Bool.{cases_lt}
use Rattle.std.proofs.lemmas.List.{append-nil, append_assoc, same_from_push, length-append, length_push}
use Rattle.std.proofs.lemmas.Option.{none-some}
use Rattle.hp_units.specs.declared.replies.Record.{Record}
use Rattle.hp_schedules.specs.Orders.{Extends}
use Rattle.hp_schedules.specs.Schedules.{Setting, next_call, plays, record_of_call}
use Rattle.hp_schedules.proofs.Plays.{asks_within, plays_push, stops}
use Rattle.hp_states.specs.Rooms.{HasNoRoom, is_full_after}
use Rattle.hp_states.proofs.Rooms.{push_extends, was_room}
use Rattle.hp_explore.specs.Aims.{AimValue, IsDone, IsLawful, IsNarrower, MayBeSkipped}
use Rattle.hp_explore.specs.Reaching.{HasRoomAlong}
use Rattle.hp_explore.specs.Searches.{AreTriedTo, IsCallDone, IsTriedTo, number_at}
use Rattle.hp_explore.proofs.Continued.{call_within, extends_longer}
use Rattle.hp_explore.proofs.Rotations.{same_cpu}

-- ---- one call

pub call_skipped : (g : Setting) (aim : AimValue) (place : List ℕ) → MayBeSkipped aim place
    → IsCallDone g aim place
call_skipped g aim place skipped = (skipped.0, λ whole. absurd (skipped.1 whole))

-- it cannot be made
pub call_over : (g : Setting) (aim : AimValue) (p : List ℕ) (news : List Record) (cpu : ℕ) → IsLawful g aim
    → plays g p ≡ Some news → next_call g cpu news ≡ None → IsCallDone g aim (p ++ cpu ∷ [])
call_over g aim p news cpu lawful played over = (
  λ s sought on.
      let end = lawful.played s sought in
      none-some end.0 (sym (stopped s on) ∙ end.1),
  λ whole s h on. none-some (h.news ++ record_of_call g h.news h.cpu h.event ∷ [])
      (sym (stopped (s ++ h.cpu ∷ []) on) ∙ plays_push g s h.news h.cpu h.event h.played h.asked),
)
  where
    stopped : (s : List ℕ) → Extends s (p ++ cpu ∷ []) → plays g s ≡ None
    stopped s on =
        ap (plays g) (on.1 ∙ append_assoc p (cpu ∷ []) on.0) ∙ stops g p on.0 news cpu played over

-- it was made, and the place to which it leads is done
pub call_made : (g : Setting) (aim : AimValue) (p : List ℕ) (cpu : ℕ)
    → HasRoomAlong g (p ++ cpu ∷ []) → IsDone g aim (p ++ cpu ∷ []) → IsCallDone g aim (p ++ cpu ∷ [])
call_made g aim p cpu along done = (
  done.0,
  λ whole s h on. elim (push_extends s (p ++ cpu ∷ []) on.0 h.cpu on.1) [
    | inl same ↦ along (s, h, ([], sym same ∙ sym (append-nil (s ++ h.cpu ∷ []))))
    | inr longer ↦ done.1 whole s h longer
  ],
)

-- ---- a place

-- all its calls are done with, and it is not sought
pub place_done : (g : Setting) (aim : AimValue) (p : List ℕ) → IsLawful g aim → (aim.sought p → ⊥)
    → ((cpu : ℕ) → cpu < length g.scripts → IsCallDone g aim (p ++ cpu ∷ [])) → IsDone g aim p
place_done g aim p lawful not_sought calls = (
  λ s sought on. none s sought on.0 on.1,
  λ whole s h on. room whole s h on.0 on.1,
)
  where
    asked : (cpu : ℕ) (rest t : List ℕ) (end : List Record) → t ≡ p ++ cpu ∷ rest → plays g t ≡ Some end
        → cpu < length g.scripts
    asked cpu rest t end is led = call_within g p rest cpu end (ap (plays g) (sym is) ∙ led)

    none : (s : List ℕ) → aim.sought s → (rest : List ℕ) → s ≡ p ++ rest → ⊥
    none s sought [] is = not_sought (subst aim.sought (is ∙ append-nil p) sought)
    none s sought (cpu ∷ rest) is =
        let end = lawful.played s sought in
        (calls cpu (asked cpu rest s end.0 is end.1)).0 s sought
        (rest, is ∙ sym (append_assoc p (cpu ∷ []) rest))

    room : aim.is_whole → (s : List ℕ) (h : HasNoRoom g s) → (rest : List ℕ) → s ≡ p ++ rest → ⊥
    room whole s h [] is =
        (calls h.cpu (asks_within g h.news h.cpu h.event h.asked)).1 whole s h
        ([], ap (λ (t : List ℕ). t ++ h.cpu ∷ []) (is ∙ append-nil p) ∙ sym (append-nil (p ++ h.cpu ∷ [])))
    room whole s h (cpu ∷ rest) is =
        (calls cpu (asked cpu rest s h.news is h.played)).1 whole s h (
          rest ++ h.cpu ∷ [],
          ap (λ (t : List ℕ). t ++ h.cpu ∷ []) is
              ∙ (append_assoc p (cpu ∷ rest) (h.cpu ∷ [])
              ∙ sym (append_assoc p (cpu ∷ []) (rest ++ h.cpu ∷ []))),
        )

-- ---- the calls of a path

-- one more at the place
pub tried_next : (g : Setting) (aim : AimValue) (seed : ℕ) (place : List ℕ) (cpu : ℕ)
    → cpu < length g.scripts
    → IsTriedTo g aim seed place (number_at (length g.scripts) seed (length place) cpu)
    → IsCallDone g aim (place ++ cpu ∷ [])
    → IsTriedTo g aim seed place (number_at (length g.scripts) seed (length place) cpu + 1)
tried_next g aim seed place cpu within tried done = (
  tried.0,
  λ c less before.
      elim (cases_lt (number_at (length g.scripts) seed (length place) c)
      (number_at (length g.scripts) seed (length place) cpu)) [
        | inl lower ↦ tried.1 c less lower
        | inr from ↦ subst (λ (d : ℕ). IsCallDone g aim (place ++ d ∷ []))
            (same_cpu (length g.scripts) seed (length place) cpu c within less (omega (arith, before, from)))
            done
      ],
)

-- at a new place
pub tried_down : (g : Setting) (aim : AimValue) (seed : ℕ) (place : List ℕ) (cpu : ℕ)
    → IsTriedTo g aim seed place (number_at (length g.scripts) seed (length place) cpu)
    → AreTriedTo g aim seed place → AreTriedTo g aim seed (place ++ cpu ∷ [])
tried_down g aim seed place cpu tried earlier before c on =
    elim (push_extends place (before ++ c ∷ []) on.0 cpu on.1) [
      | inl same ↦
          let one = same_from_push place before cpu c same in
          subst (λ (d : ℕ). IsTriedTo g aim seed before
          (number_at (length g.scripts) seed (length before) d)) one.1
          (subst (λ (p : List ℕ). IsTriedTo g aim seed p
          (number_at (length g.scripts) seed (length p) cpu)) one.0 tried)
      | inr shorter ↦ earlier before c shorter
    ]

-- at the place before
pub tried_up : (g : Setting) (aim : AimValue) (seed : ℕ) (place : List ℕ) (cpu : ℕ)
    → AreTriedTo g aim seed (place ++ cpu ∷ []) → AreTriedTo g aim seed place
tried_up g aim seed place cpu earlier before c on =
    earlier before c (extends_longer place (before ++ c ∷ []) cpu on)

-- none before the first
pub tried_none : (g : Setting) (aim : AimValue) (seed : ℕ) → AreTriedTo g aim seed []
tried_none g aim seed [] cpu on = let is = on.1 in cc
tried_none g aim seed (c ∷ before) cpu on = let is = on.1 in cc

-- by a narrower aim
pub tried_narrower : (g : Setting) (old new : AimValue) (seed : ℕ) (place : List ℕ) (count : ℕ)
    → IsNarrower old new → IsTriedTo g old seed place count → IsTriedTo g new seed place count
tried_narrower g old new seed place count narrower tried = (
  narrower.admits place tried.0,
  λ cpu less before.
      let done = tried.1 cpu less before in (
        λ s sought on. done.0 s (narrower.sought s sought) on,
        λ whole. done.1 (narrower.whole whole),
      ),
)

-- ---- the room for the calls of a schedule

-- no call has room
pub room_none : (g : Setting) → HasRoomAlong g []
room_none g fills = absurd (grind (arith, length-append, length_push, ap length fills.2.1))

-- one call more
pub room_push : (g : Setting) (p : List ℕ) (news : List Record) (cpu : ℕ) → HasRoomAlong g p
    → plays g p ≡ Some news → is_full_after g news ≡ false → HasRoomAlong g (p ++ cpu ∷ [])
room_push g p news cpu along played room fills =
    elim (push_extends p (fills.0 ++ fills.1.cpu ∷ []) fills.2.0 cpu fills.2.1) [
      | inl same ↦
          was_room g p news fills.0 played room
          (sym (same_from_push p fills.0 cpu fills.1.cpu same).0) fills.1
      | inr on ↦ along (fills.0, fills.1, on)
    ]

-- one call less
pub room_back : (g : Setting) (p : List ℕ) (cpu : ℕ) → HasRoomAlong g (p ++ cpu ∷ []) → HasRoomAlong g p
room_back g p cpu along fills =
    along (fills.0, fills.1, extends_longer p (fills.0 ++ fills.1.cpu ∷ []) cpu fills.2)
