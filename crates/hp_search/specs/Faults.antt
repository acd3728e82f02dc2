-- The cause of each fault, and the laboratory's fault for a fault of a call.
use Rattle.std.specs.Prelude.{◌≡◌, ℕ, List, Option, Some, Err, slice_get}
use Rattle.hp_schedules.specs.Interleavings.{IsRoomNeeded}
use Rattle.hp_schedules.specs.Schedules.{Setting}
use Rattle.hp_schedules.specs.declared.tally.Ending.{Ending}
use Rattle.hp_explore.specs.Faults.{FillsAlong, IsCause}
use Rattle.hp_explore.specs.declared.exploring.ExploreFault.{ExploreFault}
use Rattle.hp_explore.specs.declared.exploring.ExploreFault.TheVariants as explore
use Rattle.hp_scenario.specs.declared.fault.ScenarioFault.{ScenarioFault}
use Rattle.hp_scripts.specs.Named.{named_in}
use Rattle.hp_scripts.specs.Starts.{IsUnfitAfter}
use Rattle.hp_search.specs.FaultOrigins.{fault_from}
use Rattle.hp_search.specs.declared.lab_fault.LabFault.{LabFault}
use Rattle.hp_search.specs.declared.lab_fault.LabFault.TheVariants.{NotJson, BadShape, Layout, BadLine, NotForScript, PastLayout, HistoryFull, OutOfMemory}
use Rattle.hp_search.specs.Holding.{HoldsAfter, InScenario}

-- ---- scripts on a machine

-- the history has no room for a call of the first schedule of one of these ends
abbrev pub FillsAlongSome : Setting → List Ending → Type 0
FillsAlongSome g ends =
    (place : ℕ) × (e : Ending) × (slice_get ends place ≡ Some e) × FillsAlong g e.first.items

-- the history is full, for a cause that `C` states, and needs room for `needed` records; None if a line
-- is a plan, or if there are 2^64 records or more
abbrev pub IsFull : (C : Setting → ExploreFault → Type 0) → (needed : Option ℕ) → Setting → Type 0
IsFull C needed g = C g explore.HistoryFull × IsRoomNeeded g needed

-- the laboratory's fault for a full history: either the room that is needed, or out of memory if
-- computing it failed
abbrev pub IsFullTold : Setting → LabFault → Type 0
IsFullTold g (HistoryFull needed) = IsRoomNeeded g needed
IsFullTold g OutOfMemory = Unit {0}
IsFullTold g fault = ⊥

-- the laboratory's fault for a fault of an exploration
abbrev pub IsToldAs : Setting → ExploreFault → LabFault → Type 0
IsToldAs g explore.HistoryFull fault = IsFullTold g fault
IsToldAs g explore.OutOfMemory fault = fault ≡ OutOfMemory

-- the laboratory's fault for an exploration that failed for a cause that `C` states; out of memory
-- may come in its place
abbrev pub IsUntold : (C : Setting → ExploreFault → Type 0) → Setting → LabFault → Type 0
IsUntold C g (HistoryFull needed) = IsFull C needed g
IsUntold C g OutOfMemory = Unit {0}
IsUntold C g fault = ⊥

-- ---- a scenario

-- the bytes are not a scenario, for the reason that the fault names
abbrev pub IsUnread : (input : List ℕ) → LabFault → Type 0
IsUnread input fault = (why : ScenarioFault) × (named_in input ≡ Err why) × (fault ≡ fault_from why)

-- the cause of each fault, if `C` states the causes of an exploration's faults. `PastLayout` never
-- comes here, but only from a search for an end
abbrev pub IsFaultWith : (C : Setting → ExploreFault → Type 0) → (input : List ℕ) → (setup : ℕ) → LabFault
    → Type 0
IsFaultWith C input setup NotJson = IsUnread input NotJson
IsFaultWith C input setup BadShape = IsUnread input BadShape
IsFaultWith C input setup (Layout fault) = IsUnread input (Layout fault)
IsFaultWith C input setup (BadLine line) = IsUnread input (BadLine line)
IsFaultWith C input setup (NotForScript line why) =
    InScenario input setup (λ s. IsUnfitAfter setup line why s.scenario)
IsFaultWith C input setup (PastLayout number) = ⊥
IsFaultWith C input setup (HistoryFull needed) =
    InScenario input setup (HoldsAfter (IsFull C needed) setup)
IsFaultWith C input setup OutOfMemory = Unit {0}

-- the cause of each fault of an exploration
abbrev pub IsFaultOf : (input : List ℕ) → (setup : ℕ) → LabFault → Type 0
IsFaultOf input setup fault = IsFaultWith IsCause input setup fault
