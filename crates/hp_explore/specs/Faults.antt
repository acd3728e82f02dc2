-- Why schedules were not counted.
use Rattle.std.specs.Prelude.{◌≡◌, ℕ, true, List, [], ◌∷◌, ◌++◌, Some, length}
use Rattle.hp_units.specs.declared.events.Event.{Event}
use Rattle.hp_units.specs.declared.replies.Record.{Record}
use Rattle.hp_explore.specs.declared.exploring.ExploreFault.{ExploreFault}
use Rattle.hp_explore.specs.declared.exploring.ExploreFault.TheVariants.{HistoryFull, OutOfMemory}
use Rattle.hp_states.specs.Rooms.{HasNoRoom, is_full_after}
use Rattle.hp_states.specs.Walks.{Before, BeforeInPart, HasPartRoomBefore, HasRoomBefore}
use Rattle.hp_schedules.specs.Orders.{Extends, HasMoreThan}
use Rattle.hp_schedules.specs.Outcomes.{OutcomeValue}
use Rattle.hp_schedules.specs.Schedules.{Setting, next_call}
use Rattle.hp_units.specs.declared.replies.CallFault.{CallFault}
use Rattle.hp_units.specs.declared.replies.CallFault.TheVariants.{HistoryFull as CallFull, OutOfMemory as CallMemory}
use Rattle.hp_schedules.specs.Parts.{ComesTo, PartValue}

-- a schedule leads to a call for which the history has no room
abbrev pub FillsHistory : Setting → Type 0
FillsHistory g = (s : List ℕ) × HasNoRoom g s

-- the history has no room for one of the schedule's calls
abbrev pub FillsAlong : Setting → List ℕ → Type 0
FillsAlong g schedule = (s : List ℕ) × (h : HasNoRoom g s) × Extends schedule (s ++ h.cpu ∷ [])

-- the history has no room for the processor's next call after the new records
abbrev pub FillsHere : Setting → List Record → (cpu : ℕ) → Type 0
FillsHere g news cpu =
    (event : Event) × (next_call g cpu news ≡ Some event) × (is_full_after g news ≡ true)

-- the cause of a fault of the processor's next call after the new records
abbrev pub IsCauseHere : Setting → List Record → (cpu : ℕ) → ExploreFault → Type 0
IsCauseHere g news cpu HistoryFull = FillsHere g news cpu
IsCauseHere g news cpu OutOfMemory = Unit {0}

-- the cause of a fault of the exploration
abbrev pub IsCause : Setting → ExploreFault → Type 0
IsCause g HistoryFull = FillsHistory g
IsCause g OutOfMemory = Unit {0}

-- ---- the search of one part

-- a schedule in the part's search leads to a call for which the history has no room
abbrev pub FillsPart : Setting → PartValue → Type 0
FillsPart g part = (s : List ℕ) × HasNoRoom g s × ComesTo (length g.scripts) part s

-- the cause of a fault of a part's search
abbrev pub IsCausePart : Setting → PartValue → ExploreFault → Type 0
IsCausePart g part HistoryFull = FillsPart g part
IsCausePart g part OutOfMemory = Unit {0}

-- ---- a search with a limit

-- the search reaches a call for which the history has no room. It is the first such call in the order
-- of the walk, and at most `limit` complete schedules come before it
pub record FillsWithin (g : Setting) (limit : ℕ) : Type 0 where
  pub place : List ℕ
  pub call : HasNoRoom g place
  pub first : HasRoomBefore g (place ++ call.cpu ∷ [])
  pub few : HasMoreThan (λ s. (x : OutcomeValue) × Before g (place ++ call.cpu ∷ []) s x) limit → ⊥

-- the search of a part reaches a call for which the history has no room. It is the first such call
-- of this search, and at most `limit` complete schedules of the part come before it
pub record FillsPartWithin (g : Setting) (part : PartValue) (limit : ℕ) : Type 0 where
  pub place : List ℕ
  pub call : HasNoRoom g place
  pub comes : ComesTo (length g.scripts) part place
  pub first : HasPartRoomBefore g part (place ++ call.cpu ∷ [])
  pub few :
      HasMoreThan (λ s. (x : OutcomeValue) × BeforeInPart g part (place ++ call.cpu ∷ []) s x) limit → ⊥

-- the cause of a fault of a search with a limit
abbrev pub IsCauseWithin : Setting → (limit : ℕ) → ExploreFault → Type 0
IsCauseWithin g limit HistoryFull = FillsWithin g limit
IsCauseWithin g limit OutOfMemory = Unit {0}

-- the cause of a fault of a part's search with a limit
abbrev pub IsCausePartWithin : Setting → PartValue → (limit : ℕ) → ExploreFault → Type 0
IsCausePartWithin g part limit HistoryFull = FillsPartWithin g part limit
IsCausePartWithin g part limit OutOfMemory = Unit {0}

-- ---- one call

-- the exploration's fault for a call's fault
abbrev pub fault_of : CallFault → ExploreFault
fault_of CallFull = HistoryFull
fault_of CallMemory = OutOfMemory
