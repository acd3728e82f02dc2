-- The progress of the walk over all schedules.
use Rattle.std.specs.Prelude.{◌≡◌, ℕ, ◌<◌, ◌⊎◌, Bool, true, false, List, [], ◌∷◌, ◌++◌, Some, None, length}
use Rattle.hp_units.specs.History.{value_of}
use Rattle.hp_units.specs.declared.events.Event.{Event}
use Rattle.hp_units.specs.declared.replies.Record.{Record}
use Rattle.hp_memory.specs.Steps.{StepsValue}
use Rattle.hp_schedules.specs.declared.tally.Ending.{Ending}
use Rattle.hp_schedules.specs.Ends.{AreCounted, AreInOrder}
use Rattle.hp_schedules.specs.Notes.{IsNoted}
use Rattle.hp_schedules.specs.Orders.{Extends, IsBefore}
use Rattle.hp_schedules.specs.Outcomes.{OutcomeValue, outcome}
use Rattle.hp_schedules.specs.Parts.{ComesTo, EndsInPart, IsOfPart, PartValue}
use Rattle.hp_schedules.specs.Schedules.{EndsWith, Setting, next_call, plays, schedule_of}
use Rattle.hp_states.specs.Rooms.{HasNoRoom}

-- a schedule of the scripts leads to this state, by these records
pub record IsAt (g : Setting) (p : StepsValue) : Type 0 where
  pub layout : p.layout ≡ g.layout
  pub played : plays g (schedule_of p.records) ≡ Some p.records
  pub state : p.state ≡ value_of g.layout g.base (g.start ++ p.records)

-- the schedule is complete, with this outcome, and comes before the place
abbrev pub Before : Setting → List ℕ → List ℕ → OutcomeValue → Type 0
Before g place s x = IsBefore s place × EndsWith g s x

-- the schedule is complete, with this outcome, and either comes before the place or continues from it
abbrev pub Through : Setting → List ℕ → List ℕ → OutcomeValue → Type 0
Through g place s x = (IsBefore s place ⊎ Extends s place) × EndsWith g s x

-- the history has room for each call before the place
abbrev pub HasRoomBefore : Setting → List ℕ → Type 0
HasRoomBefore g place = (s : List ℕ) (h : HasNoRoom g s) → IsBefore (s ++ h.cpu ∷ []) place → ⊥

-- the history has room for each call from the place on
abbrev pub HasRoomFrom : Setting → List ℕ → Type 0
HasRoomFrom g place = (s : List ℕ) → HasNoRoom g s → Extends s place → ⊥

-- everything before the place is walked: the schedules before it are counted, the ends are in the
-- order of their first schedules, and the history has room for each call before the place
pub record IsWalkedBefore (g : Setting) (place : List ℕ) (ends : List Ending) : Type 0 where
  pub counted : AreCounted (Before g place) ends
  pub ordered : AreInOrder ends
  pub room : HasRoomBefore g place

-- ---- the search of one part

-- the schedule belongs to the part and is complete, with this outcome, and comes before the place
abbrev pub BeforeInPart : Setting → PartValue → List ℕ → List ℕ → OutcomeValue → Type 0
BeforeInPart g part place s x = IsBefore s place × EndsInPart g part s x

-- the schedule belongs to the part and is complete, with this outcome, and either comes before the
-- place or continues from it
abbrev pub ThroughInPart : Setting → PartValue → List ℕ → List ℕ → OutcomeValue → Type 0
ThroughInPart g part place s x = (IsBefore s place ⊎ Extends s place) × EndsInPart g part s x

-- the history has room for each call that the part's search makes before the place
abbrev pub HasPartRoomBefore : Setting → PartValue → List ℕ → Type 0
HasPartRoomBefore g part place =
    (s : List ℕ) (h : HasNoRoom g s) → ComesTo (length g.scripts) part s
    → IsBefore (s ++ h.cpu ∷ []) place → ⊥

-- the history has room for each call that the part's search makes from the place on
abbrev pub HasPartRoomFrom : Setting → PartValue → List ℕ → Type 0
HasPartRoomFrom g part place =
    (s : List ℕ) → HasNoRoom g s → ComesTo (length g.scripts) part s → Extends s place → ⊥

-- everything of the part before the place is walked
pub record IsPartWalkedBefore (g : Setting) (part : PartValue) (place : List ℕ)
    (ends : List Ending) : Type 0 where
  pub counted : AreCounted (BeforeInPart g part place) ends
  pub ordered : AreInOrder ends
  pub room : HasPartRoomBefore g part place

-- everything of the part before the place is walked, and everything that continues from it
pub record IsPartWalkedThrough (g : Setting) (part : PartValue) (place : List ℕ)
    (ends : List Ending) : Type 0 where
  pub counted : AreCounted (ThroughInPart g part place) ends
  pub ordered : AreInOrder ends
  pub room : HasPartRoomBefore g part place
  pub onward : HasPartRoomFrom g part place

-- the schedule that led here is counted under its outcome for this many processors
abbrev pub IsEndNoted : (processors : ℕ) → StepsValue → List Ending → List Ending → Type 0
IsEndNoted processors p old new =
    IsNoted old (outcome processors p.records p.layout p.state) (schedule_of p.records) new

-- the schedule is counted if it ends here; otherwise the ends stay as they are
abbrev pub IsNotedAtEnd : (is_end : Bool) → (processors : ℕ) → StepsValue → List Ending → List Ending → Type 0
IsNotedAtEnd true processors p old new = IsEndNoted processors p old new
IsNotedAtEnd false processors p old new = new ≡ old

-- either no processor below `below` has a call to make after the new records (true), or some processor
-- has one (false)
abbrev pub IsOverBelow : Setting → List Record → (below : ℕ) → Bool → Type 0
IsOverBelow g news below true = (cpu : ℕ) → cpu < below → next_call g cpu news ≡ None
IsOverBelow g news below false = (cpu : ℕ) × (event : Event) × (next_call g cpu news ≡ Some event)

-- if `is_end` is true, a schedule of the part ends after the new records. If it is false, a script has a
-- call to make there, or the schedule ends there and belongs to another part
abbrev pub IsEndHere : Setting → PartValue → List Record → (is_end : Bool) → Type 0
IsEndHere g part news true =
    IsOverBelow g news (length g.scripts) true × IsOfPart (length g.scripts) part (schedule_of news)
IsEndHere g part news false =
    IsOverBelow g news (length g.scripts) false
    ⊎ (IsOverBelow g news (length g.scripts) true
    × (IsOfPart (length g.scripts) part (schedule_of news) → ⊥))
