-- The places that a search has visited, each by its key.
use Rattle.std.specs.Prelude.{◌≡◌, ◌⊎◌, ℕ, true, List, [], ◌∷◌, ◌++◌, None, Some, length, slice_get}
use Rattle.hp_units.specs.History.{value_of}
use Rattle.hp_units.specs.Memory.{Memory}
use Rattle.hp_units.specs.Placement.{IsShaped}
use Rattle.hp_units.specs.declared.replies.Record.{Record}
use Rattle.hp_laws.specs.Renumbered.{renumbered}
use Rattle.hp_schedules.specs.Alike.{AreMergeable}
use Rattle.hp_schedules.specs.Orders.{Extends}
use Rattle.hp_schedules.specs.Schedules.{Setting, plays, schedule_of}
use Rattle.hp_states.specs.Codes.{place_code}
use Rattle.hp_states.specs.Numbered.{IsNumbered}
use Rattle.hp_states.specs.Stops.{AreStopsAt, StopsValue}
use Rattle.hp_explore.specs.Aims.{AimValue, AreSteered, IsDone}
use Rattle.hp_schedules.specs.Scripts.{greatest_named}
use Rattle.hp_explore.specs.LatestOps.{AreLatestAt, numbering}
use Rattle.hp_explore.specs.declared.visited.Visited.{Visited}

-- ---- the places visited

-- the state after the new records, in which operations have the numbers of `numbering`
abbrev pub numbered_state : Setting → (news : List Record) → Memory
numbered_state g news = renumbered (numbering g news) (value_of g.layout g.base (g.start ++ news))

-- the numbers of a place: the number of its list of operations that a Cancel can undo, the numbers of
-- the processors' positions, and the aim's marks. Operations have the numbers of `numbering`
pub record ArePlaceNumbers (g : Setting) (aim : AimValue) (stops : StopsValue) (news : List Record)
    (numbers : List ℕ) : Type 0 where
  pub openings : ℕ
  pub steering : List ℕ
  pub marks : List ℕ
  pub numbers_are : numbers ≡ (openings ∷ steering) ++ marks
  pub numbered : IsNumbered (numbering g news) g stops.codes stops.lists news (Some openings)
  pub steered : AreSteered (numbering g news) g (length g.scripts) news steering
  pub marked : aim.marks news marks

-- the key of a place: the code of its numbers and its state
pub record IsPlaceKey (g : Setting) (aim : AimValue) (stops : StopsValue) (news : List Record)
    (key : List ℕ) : Type 0 where
  pub numbers : List ℕ
  pub are : ArePlaceNumbers g aim stops news numbers
  pub key_is : key ≡ place_code g.layout numbers (numbered_state g news)
  pub shaped : IsShaped g.layout (numbered_state g news)

-- the only list is the empty one, with the number 0. By these numbers a place has a code only if no
-- operation can be undone there by a Cancel
abbrev pub no_stops : StopsValue
no_stops = record {
  codes = [];
  lists = [] ∷ [];
  here = record { openings = None; state = None };
  before = [];
}

-- the key of the place was written, with these numbers
abbrev pub IsWritten : Setting → AimValue → StopsValue → List Record → (numbers key : List ℕ) → Type 0
IsWritten g aim stops news numbers key = (is : IsPlaceKey g aim stops news key) × (is.numbers ≡ numbers)

-- the key belongs to an admitted place, which either is done or is on the schedule's path
pub record IsVisited (g : Setting) (aim : AimValue) (schedule : List ℕ) (stops : StopsValue)
    (key : List ℕ) : Type 0 where
  pub news : List Record
  pub played : plays g (schedule_of news) ≡ Some news
  pub admitted : aim.admits (schedule_of news)
  pub key_is : IsPlaceKey g aim stops news key
  pub done : IsDone g aim (schedule_of news) ⊎ Extends schedule (schedule_of news)

-- each key belongs to a visited place. If places are kept, the scripts are mergeable
pub record AreVisited (g : Setting) (aim : AimValue) (schedule : List ℕ) (v : Visited) : Type 0 where
  pub mergeable : v.is_on ≡ true → AreMergeable g.scripts
  pub each : (i : ℕ) (key : List ℕ) → slice_get v.keys i ≡ Some key
      → IsVisited g aim schedule v.stops key

-- if places are kept, `stops`, `latest` and `fixed` are those of the place after these records
abbrev pub AreFollowed : Setting → List Record → Visited → Type 0
AreFollowed g news v =
    v.is_on ≡ true
    → AreStopsAt (numbering g) g news v.stops × AreLatestAt g news v.latest
    × (v.fixed ≡ greatest_named g.scripts)

-- ---- one place

-- places are kept, and a key of the place is among the keys
pub record IsKnown (g : Setting) (aim : AimValue) (news : List Record) (v : Visited) : Type 0 where
  pub on : v.is_on ≡ true
  pub key : List ℕ
  pub at : ℕ
  pub here : slice_get v.keys at ≡ Some key
  pub key_is : IsPlaceKey g aim v.stops news key

-- either the keys stay as they are, or the place's key is added
abbrev pub IsKept : Setting → AimValue → List Record → Visited → Visited → Type 0
IsKept g aim news old new =
    (new.keys ≡ old.keys)
    ⊎ ((key : List ℕ) × (new.keys ≡ old.keys ++ key ∷ []) × IsPlaceKey g aim new.stops news key)
