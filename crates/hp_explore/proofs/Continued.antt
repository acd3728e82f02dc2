-- Playing on after some records, and calls for which the history has no room.
use Rattle.std.proofs.Common.{◌≡◌, ◌<◌, ℕ, List, length, [], ◌∷◌, ◌++◌, Option, Some, None, refl, ap, sym, ◌∙◌, ◌+◌, ◌≤◌, true, arith}
use Rattle.std.specs.Prelude.{fold, ◌||◌, nat_le}
use Rattle.std.proofs.lemmas.List.{append-nil, append_assoc, length-append, length_push}
use Rattle.std.proofs.lemmas.Option.{none-some, same_Some}
use Rattle.hp_units.specs.declared.events.Event.{Event}
use Rattle.hp_units.specs.declared.replies.Record.{Record}
use Rattle.hp_schedules.specs.Orders.{Extends}
use Rattle.hp_schedules.specs.Schedules.{Setting, next_call, play_one, plays, record_of_call, schedule_of}
use Rattle.hp_schedules.proofs.Plays.{asks_within, from_news, plays_on, plays_one, stays_none, plays_push}
use Rattle.std.proofs.lemmas.Bool.Decides.{nat_tests}
use Rattle.hp_explore.specs.Faults.{FillsAlong, FillsHere, IsCauseHere}
use Rattle.hp_states.specs.Rooms.{is_full_after}
use Rattle.hp_explore.specs.declared.exploring.ExploreFault.{ExploreFault}
use Rattle.hp_explore.specs.declared.exploring.ExploreFault.TheVariants.{HistoryFull, OutOfMemory}

-- the first call of what is played on, and where it leads
pub first_played : (g : Setting) (cpu : ℕ) (rest : List ℕ) (h end : List Record)
    → from_news g h (cpu ∷ rest) ≡ Some end
    → (e : Event) × (next_call g cpu h ≡ Some e)
    × (from_news g (h ++ record_of_call g h cpu e ∷ []) rest ≡ Some end)
first_played g cpu rest h end is = by_call (next_call g cpu h) refl
  where
    by_call : (o : Option Event) → next_call g cpu h ≡ o
        → (e : Event) × (next_call g cpu h ≡ Some e)
        × (from_news g (h ++ record_of_call g h cpu e ∷ []) rest ≡ Some end)
    by_call None asked =
        absurd (none-some end
        (sym (ap (λ (o : Option (List Record)). fold (play_one g) o rest) (plays_one g h cpu None asked)
        ∙ stays_none g rest) ∙ is))
    by_call (Some e) asked = (
      e,
      asked,
      sym (ap (λ (o : Option (List Record)). fold (play_one g) o rest) (plays_one g h cpu (Some e) asked))
          ∙ is,
    )

-- the records after playing on begin with the records before
pub grown : (g : Setting) (rest : List ℕ) (h end : List Record) → from_news g h rest ≡ Some end
    → (more : List Record) × (end ≡ h ++ more)
grown g [] h end is = ([], sym (same_Some h end is) ∙ sym (append-nil h))
grown g (cpu ∷ rest) h end is =
    let one = first_played g cpu rest h end is in
    let r = record_of_call g h cpu one.0 in
    let on = grown g rest (h ++ r ∷ []) end one.2 in (r ∷ on.0, on.1 ∙ append_assoc h (r ∷ []) on.0)

pub continued : (g : Setting) (p rest : List ℕ) (h end : List Record) → plays g p ≡ Some h
    → plays g (p ++ rest) ≡ Some end → (more : List Record) × (end ≡ h ++ more)
continued g p rest h end first whole =
    grown g rest h end (sym (plays_on g p rest
    ∙ ap (λ (o : Option (List Record)). fold (play_one g) o rest) first) ∙ whole)

-- what goes on from a place goes on by a processor with a script
pub call_within : (g : Setting) (p rest : List ℕ) (cpu : ℕ) (end : List Record)
    → plays g (p ++ cpu ∷ rest) ≡ Some end → cpu < length g.scripts
call_within g p rest cpu end whole = by_place (plays g p) refl
  where
    by_place : (o : Option (List Record)) → plays g p ≡ o → cpu < length g.scripts
    by_place None is =
        absurd (none-some end
        (sym (plays_on g p (cpu ∷ rest)
        ∙ (ap (λ (o : Option (List Record)). fold (play_one g) o (cpu ∷ rest)) is
        ∙ stays_none g (cpu ∷ rest))) ∙ whole))
    by_place (Some news) is =
        let one =
        first_played g cpu rest news end (sym (plays_on g p (cpu ∷ rest)
        ∙ ap (λ (o : Option (List Record)). fold (play_one g) o (cpu ∷ rest)) is) ∙ whole) in
        asks_within g news cpu one.0 one.1

-- ---- what a schedule goes on from

-- a longer one goes on from it too
pub extends_longer : (s p : List ℕ) (cpu : ℕ) → Extends s p → Extends (s ++ cpu ∷ []) p
extends_longer s p cpu on =
    (on.0 ++ cpu ∷ [], ap (λ (t : List ℕ). t ++ cpu ∷ []) on.1 ∙ append_assoc p on.0 (cpu ∷ []))

-- ---- a full history has no room for later calls

fuller : (limit most before m n : ℕ) → m ≤ n → (nat_le limit m || nat_le most (before + m)) ≡ true
    → (nat_le limit n || nat_le most (before + n)) ≡ true
fuller limit most before m n less full = grind (arith, nat_tests)

-- a history that is full after some records is so after more
pub full_on : (g : Setting) (few more : List Record) → length few ≤ length more → is_full_after g few ≡ true
    → is_full_after g more ≡ true
full_on g few more less full = grind (arith, fuller, length-append)

-- a call along a schedule that ends with a processor's next call has no room only where that one has none
pub fills_along_here : (g : Setting) (news : List Record) (cpu : ℕ) (event : Event)
    → plays g (schedule_of news) ≡ Some news → next_call g cpu news ≡ Some event
    → FillsAlong g (schedule_of news ++ cpu ∷ []) → FillsHere g news cpu
fills_along_here g news cpu event played asked f = (event, asked, full_on g f.1.news news shorter f.1.full)
  where
    shorter : length f.1.news ≤ length news
    shorter =
        let on = continued g (f.0 ++ f.1.cpu ∷ []) f.2.0 _ (news ++ record_of_call g news cpu event ∷ [])
        (plays_push g f.0 f.1.news f.1.cpu f.1.event f.1.played f.1.asked)
        (ap (plays g) (sym f.2.1) ∙ plays_push g (schedule_of news) news cpu event played asked) in
        grind (arith, length-append, length_push, ap length on.1)

-- so a fault along it is one of this call
pub cause_along : (g : Setting) (news : List Record) (cpu : ℕ) (event : Event) (fault : ExploreFault)
    → plays g (schedule_of news) ≡ Some news → next_call g cpu news ≡ Some event
    → (fault ≡ HistoryFull → FillsAlong g (schedule_of news ++ cpu ∷ [])) → IsCauseHere g news cpu fault
cause_along g news cpu event HistoryFull played asked along =
    fills_along_here g news cpu event played asked (along refl)
cause_along g news cpu event OutOfMemory played asked along = tt
