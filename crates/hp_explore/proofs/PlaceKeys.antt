-- Places with one key go on alike, so what is done from the one is done from the other.
use Rattle.std.proofs.Common.{◌≡◌, ℕ, List, ◌∷◌, ◌++◌, length, Option, None, Some, refl, ap, sym, ◌∙◌, arith}
use Rattle.std.specs.Prelude.{option_map}
use Rattle.std.proofs.lemmas.Option.{none-some}
use Rattle.hp_units.specs.declared.replies.Record.{Record}
use Rattle.hp_schedules.specs.Alike.{AreMergeable}
use Rattle.hp_units.specs.declared.events.Event.{Event}
use Rattle.hp_laws.proofs.Numbered.{differ}
use Rattle.hp_schedules.specs.Continuing.{ContinueAlike, ContinuesAs, anonymous}
use Rattle.hp_schedules.specs.Schedules.{Setting, next_call, plays, schedule_of}
use Rattle.hp_schedules.specs.Scripts.{greatest_named}
use Rattle.hp_schedules.proofs.Continuing.{continues_as}
use Rattle.hp_schedules.proofs.SameCalls.{all_calls}
use Rattle.hp_schedules.proofs.Steering.{steered_same}
use Rattle.hp_states.specs.Rooms.{HasNoRoom}
use Rattle.hp_states.specs.Stops.{StopsValue}
use Rattle.hp_states.proofs.Coded.{places_apart}
use Rattle.hp_states.proofs.StopNumbers.{openings_join}
use Rattle.hp_explore.specs.Aims.{AimValue, IsDone, IsLawful}
use Rattle.hp_explore.specs.SteeredBelow.{steered_apart, steered_at}
use Rattle.hp_explore.specs.LatestOps.{numbering, ops_at}
use Rattle.hp_explore.specs.Visited.{IsPlaceKey, numbered_state}
use Rattle.hp_explore.proofs.LatestNumbers.{later_number, scripts_named}

-- ---- parts of keys

-- the parts of two keys that are one
pub key_parts : (g : Setting) (aim : AimValue) (stops : StopsValue) (h k : List Record)
    (key : List ℕ)
    → (a : IsPlaceKey g aim stops h key) → (b : IsPlaceKey g aim stops k key)
    → (numbered_state g h ≡ numbered_state g k) × (a.are.openings ≡ b.are.openings)
    × (a.are.steering ≡ b.are.steering) × (a.are.marks ≡ b.are.marks)
key_parts g aim stops h k key a b =
    let places = places_apart g.layout a.numbers b.numbers (numbered_state g h) (numbered_state g k) a.shaped
    b.shaped (sym a.key_is ∙ b.key_is) in
    let same : a.are.openings ∷ (a.are.steering ++ a.are.marks)
    ≡ b.are.openings ∷ (b.are.steering ++ b.are.marks) =
    sym a.are.numbers_are ∙ (places.0 ∙ b.are.numbers_are) in
    let both = steered_apart (numbering g h) (numbering g k) g h k (length g.scripts) a.are.steering
    b.are.steering a.are.marks b.are.marks (omega arith) a.are.steered b.are.steered (cc) in (
      places.1,
      (cc),
      both.0,
      both.1,
    )

-- ---- places with one key go on alike

pub keys_alike : (g : Setting) (aim : AimValue) (stops : StopsValue) (h k : List Record)
    (key : List ℕ)
    → IsLawful g aim → AreMergeable g.scripts → plays g (schedule_of h) ≡ Some h
    → plays g (schedule_of k) ≡ Some k
    → IsPlaceKey g aim stops h key → IsPlaceKey g aim stops k key → ContinueAlike g h k
keys_alike g aim stops h k key lawful mergeable first second a b =
    let same = key_parts g aim stops h k key a b in
    let calls : length h ≡ length k =
    lawful.counted h k b.are.marks first second (rw (← same.3) a.are.marked) b.are.marked in
    record {
      first_numbers = numbering g h;
      second_numbers = numbering g k;
      first_differ = differ (greatest_named g.scripts) (ops_at g h);
      second_differ = differ (greatest_named g.scripts) (ops_at g k);
      same =
          steered_same (numbering g h) (numbering g k) g h k mergeable calls
          (λ n past. later_number g h n first past
          ∙ sym (later_number g k n second (omega (arith, past, all_calls g h k calls))))
          (λ cpu lines here. scripts_named (ops_at g h) (ops_at g k) g.scripts cpu lines here)
          (λ cpu within. steered_at (numbering g h) (numbering g k) g h k a.are.steering b.are.steering same.2
          a.are.steered b.are.steered cpu within)
          (openings_join (numbering g h) (numbering g k) g stops h k b.are.openings same.0
          (rw (← same.1) a.are.numbered) b.are.numbered);
    }

-- a call for which the history has no room has none from the other
room_alike : (g : Setting) (p q rest : List ℕ) (h k : List Record) → AreMergeable g.scripts
    → plays g p ≡ Some h → plays g q ≡ Some k → ContinueAlike g h k → HasNoRoom g (p ++ rest)
    → HasNoRoom g (q ++ rest)
room_alike g p q rest h k all first second alike full =
    by_call (next_call g full.cpu (k ++ on.others)) refl
  where
    on : ContinuesAs g q rest h k alike full.news
    on = continues_as g p q rest h k full.news all first second alike full.played

    by_call : (o : Option Event) → next_call g full.cpu (k ++ on.others) ≡ o → HasNoRoom g (q ++ rest)
    by_call None none =
        absurd (none-some (anonymous full.event)
        (sym (ap (option_map anonymous) none)
        ∙ (sym (on.calls full.cpu) ∙ ap (option_map anonymous) full.asked)))
    by_call (Some event) asked = record {
      news = k ++ on.others;
      cpu = full.cpu;
      event = event;
      played = on.played;
      asked = asked;
      full = rw (← all_calls g full.news (k ++ on.others) on.after.calls, full.full);
    }

-- so what is done from the one is done from the other
pub done_alike : (g : Setting) (aim : AimValue) (stops : StopsValue) (h k : List Record)
    (key : List ℕ)
    → IsLawful g aim → AreMergeable g.scripts → plays g (schedule_of h) ≡ Some h
    → plays g (schedule_of k) ≡ Some k
    → aim.admits (schedule_of h) → aim.admits (schedule_of k)
    → IsPlaceKey g aim stops h key → IsPlaceKey g aim stops k key
    → IsDone g aim (schedule_of h) → IsDone g aim (schedule_of k)
done_alike g aim stops h k key lawful mergeable first second admitted here a b done =
    let same = key_parts g aim stops h k key a b in
    let back = keys_alike g aim stops k h key lawful mergeable second first b a in (
      λ s sought on. done.0 (schedule_of h ++ on.0)
          (lawful.continued k h b.are.marks on.0 (record {
            mergeable = mergeable;
            first_played = second;
            second_played = first;
            alike = back;
            first_numbers = numbering g k;
            second_numbers = numbering g h;
            steering = b.are.steering;
            first_steered = b.are.steered;
            second_steered = rw (← same.2) a.are.steered;
          }) here admitted b.are.marked (rw (← same.3) a.are.marked) (rw (← on.1) sought))
          (on.0, refl),
      λ whole s full on. done.1 whole (schedule_of h ++ on.0)
          (room_alike g (schedule_of k) (schedule_of h) on.0 k h mergeable second first back
          (rw (← on.1) full)) (on.0, refl),
    )
