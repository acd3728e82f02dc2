-- The causes of a search's faults, and the faults that its result rules out.
use Rattle.std.specs.Prelude.{ℕ, ◌<◌, ◌⊎◌, List, Option, None, Some, [], ◌∷◌, ◌++◌}
use Rattle.hp_explore.specs.Faults.{FillsHistory}
use Rattle.hp_states.specs.Rooms.{HasNoRoom}
use Rattle.hp_schedules.specs.Schedules.{Setting}
use Rattle.hp_explore.specs.declared.exploring.ExploreFault.{ExploreFault}
use Rattle.hp_explore.specs.declared.exploring.ExploreFault.TheVariants as explore
use Rattle.hp_explore.specs.Changes.{changes}
use Rattle.hp_explore.specs.Reaching.{HasRoomAlong, IsPassed, IsWithin, NeedsChanges, ReachesFirst}
use Rattle.hp_explore.specs.declared.fault.FindFault.{FindFault}
use Rattle.hp_explore.specs.declared.fault.FindFault.TheVariants.{HistoryFull, OutOfMemory, Stopped}
use Rattle.hp_explore.specs.declared.finding.Found.{Found}
use Rattle.hp_explore.specs.declared.finding.Found.TheVariants.{Nearest, Absent}
use Rattle.hp_questions.specs.declared.wanted.Wanted.{Wanted}

-- a search first tries the schedules with fewer changes than this number, and then all schedules
abbrev pub few_changes : ℕ
few_changes = 3

-- ---- a full history

-- a search within this budget reaches a call for which the history has no room. Each schedule that ends
-- as wanted and comes earlier exceeds the budget; without a budget there is none
pub record FillsPass (g : Setting) (wanted : List Wanted) (budget : Option ℕ) : Type 0 where
  pub place : List ℕ
  pub call : HasNoRoom g place
  pub few : IsWithin budget (place ++ call.cpu ∷ [])
  pub passed : IsPassed g wanted budget (place ++ call.cpu ∷ [])

-- the history has no room for a call, and no schedule that ends as wanted comes before that call
abbrev pub FillsFirst : Setting → List Wanted → Type 0
FillsFirst g wanted = FillsPass g wanted None

-- the history has no room for a call, and the schedule up to and with this call has fewer than `below`
-- changes. No schedule that ends as wanted has fewer changes than this one, and none that has equally
-- many comes before the call
pub record FillsNear (g : Setting) (wanted : List Wanted) (below : ℕ) : Type 0 where
  pub place : List ℕ
  pub call : HasNoRoom g place
  pub few : changes (place ++ call.cpu ∷ []) < below
  pub needs : NeedsChanges g wanted (changes (place ++ call.cpu ∷ []))
  pub passed : IsPassed g wanted (Some (changes (place ++ call.cpu ∷ []))) (place ++ call.cpu ∷ [])

-- `known` is the first schedule that ends as wanted. The history has no room for a call that is reached
-- with fewer changes (FillsNear)
abbrev pub FillsNearer : Setting → List Wanted → Type 0
FillsNearer g wanted = (known : List ℕ) × ReachesFirst g wanted known × FillsNear g wanted (changes known)

-- the cause of a fault of one pass
abbrev pub IsPassCause : Setting → List Wanted → (budget : Option ℕ) → FindFault → Type 0
IsPassCause g wanted budget HistoryFull = FillsPass g wanted budget
IsPassCause g wanted budget OutOfMemory = Unit {0}
IsPassCause g wanted budget Stopped = Unit {0}

-- the cause of a fault in a series of passes that try schedules with fewer than `below` changes
abbrev pub IsNearCause : Setting → List Wanted → (below : ℕ) → FindFault → Type 0
IsNearCause g wanted below HistoryFull = FillsNear g wanted below
IsNearCause g wanted below OutOfMemory = Unit {0}
IsNearCause g wanted below Stopped = Unit {0}

-- ---- for the whole search

-- the cause of a fault of the whole search. There are three causes of `HistoryFull`, one for each step
-- of the search. Either the history has no room for a call that is reached with fewer than `few_changes`
-- changes (FillsNear). Or it has none for a call, and no schedule that ends as wanted comes before that
-- call. Or it has none for a call that is reached with fewer changes than the first schedule that ends as
-- wanted (FillsNearer). In the last two cases, each schedule that ends as wanted has at least
-- `few_changes` changes
abbrev pub IsFindCause : Setting → List Wanted → FindFault → Type 0
IsFindCause g wanted HistoryFull =
    FillsNear g wanted few_changes
    ⊎ (NeedsChanges g wanted few_changes × (FillsFirst g wanted ⊎ FillsNearer g wanted))
IsFindCause g wanted OutOfMemory = Unit {0}
IsFindCause g wanted Stopped = Unit {0}

-- if the result is `Absent`, no schedule fills the history
abbrev pub SparesHistory : Setting → Found → Type 0
SparesHistory g (Nearest schedule) = Unit {0}
SparesHistory g Absent = FillsHistory g → ⊥

-- if a schedule was found, the history has room for each of its calls
abbrev pub IsRecorded : Setting → Found → Type 0
IsRecorded g (Nearest schedule) = HasRoomAlong g schedule.items
IsRecorded g Absent = Unit {0}

-- the search's fault for a fault of the exploration
abbrev pub find_fault_from : ExploreFault → FindFault
find_fault_from explore.HistoryFull = HistoryFull
find_fault_from explore.OutOfMemory = OutOfMemory
