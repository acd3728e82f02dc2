-- What workers do with their seats.
use Rattle.std.specs.Prelude.{◌≡◌, ◌⊎◌, ℕ, ◌≤◌, List, [], Option, Some, None, length, slice_get, ⊤}
use Rattle.std.specs.List.Sorted.{IsPermutation}
use Rattle.hp_units.specs.Choices.{first_some}
use Rattle.hp_units.specs.LayoutParts.{LayoutParts}
use Rattle.hp_history.specs.declared.volumes.Volume.{Volume}
use Rattle.hp_shared.specs.Shared.{IsReached, SeatValue}
use Rattle.hp_scenario.specs.declared.lines.Line.{Line}
use Rattle.hp_shared.specs.declared.lines.LineEnd.{LineEnd}
use Rattle.hp_shared.specs.declared.fault.RunFault.{RunFault}
use Rattle.hp_shared.specs.declared.fault.RunFault.TheVariants.{NotStarted, OutOfMemory}
use Rattle.hp_shared.specs.Lines.{EndsFull, IsWorked}
use Rattle.hp_shared.specs.Seals.{AreInOrder, AreSealed, joined, seals_in_all}

-- a worker without a fault ran all its lines, one with a fault ran none; `NotStarted` has the
-- worker's processor
abbrev pub HasEnded : (cpu : ℕ) → List Line → List LineEnd → Option RunFault → Type 0
HasEnded cpu lines ends None = length ends ≡ length lines
HasEnded cpu lines ends (Some (NotStarted named)) = (named ≡ cpu) × (ends ≡ [])
HasEnded cpu lines ends (Some OutOfMemory) = ends ≡ []

-- a worker was started: its fault is not `NotStarted`
abbrev pub IsStarted : Option RunFault → Type 0
IsStarted None = ⊤
IsStarted (Some (NotStarted named)) = ⊥
IsStarted (Some OutOfMemory) = ⊤

-- a worker ran all its lines with this seat, whose seals handed out these volumes; or it has a
-- fault and ran none
pub record IsWorker (l : LayoutParts) (old : SeatValue) (lines : List Line) (new : SeatValue)
    (handed : List Volume) (ends : List LineEnd) (fault : Option RunFault) : Type 0 where
  pub worked : IsWorked l old lines new handed ends
  pub ended : HasEnded old.cpu lines ends fault

-- no worker has returned yet
abbrev pub IsBare : List SeatValue → List Volume → List (List LineEnd) → Option RunFault → Type 0
IsBare news volumes lists fault = (news ≡ []) × (volumes ≡ []) × (lists ≡ []) × (fault ≡ None)

-- a worker of the seat `old` and of the script with index `place`
pub record IsWorkerAt (l : LayoutParts) (old : SeatValue) (scripts : List (List Line)) (place : ℕ)
    (new : SeatValue) (handed : List Volume) (ends : List LineEnd) (fault : Option RunFault) : Type 0 where
  pub lines : List Line
  pub script : slice_get scripts place ≡ Some lines
  pub worker : IsWorker l old lines new handed ends fault

-- a worker of `old` and `lines`; its seat, volumes, ends and fault are at index `place` of the lists
pub record HasWorker (l : LayoutParts) (old : SeatValue) (lines : List Line) (news : List SeatValue)
    (lists : List (List Volume)) (ends : List (List LineEnd)) (faults : List (Option RunFault))
    (place : ℕ) : Type 0 where
  pub new : SeatValue
  pub handed : List Volume
  pub own : List LineEnd
  pub fault : Option RunFault
  pub seat : slice_get news place ≡ Some new
  pub out : slice_get lists place ≡ Some handed
  pub end : slice_get ends place ≡ Some own
  pub why : slice_get faults place ≡ Some fault
  pub worker : IsWorker l old lines new handed own fault

-- all workers have returned; the volumes are those that they handed out, seat by seat; the fault is
-- that of the first worker that has one. The first worker is always started, in the caller's thread
pub record AreWorkers (l : LayoutParts) (olds : List SeatValue) (scripts : List (List Line))
    (news : List SeatValue) (volumes : List Volume) (lists : List (List LineEnd))
    (fault : Option RunFault) : Type 0 where
  pub handed : List (List Volume)
  pub faults : List (Option RunFault)
  pub seats : length news ≡ length olds
  pub outs : length handed ≡ length olds
  pub ends : length lists ≡ length olds
  pub causes : length faults ≡ length olds
  pub all : volumes ≡ joined handed
  pub sealed : AreSealed l volumes
  pub first : fault ≡ first_some faults
  pub started : (own : Option RunFault) → slice_get faults 0 ≡ Some own → IsStarted own
  pub each : (place : ℕ) (seat : SeatValue) (lines : List Line) → slice_get olds place ≡ Some seat
      → slice_get scripts place ≡ Some lines → HasWorker l seat lines news handed lists faults place

-- memory ran out before any thread was started; the seats are as they were
pub record AreUnstarted (olds news : List SeatValue) (volumes : List Volume) (lists : List (List LineEnd))
    (fault : Option RunFault) : Type 0 where
  pub seats : news ≡ olds
  pub volumes_none : volumes ≡ []
  pub ends : lists ≡ []
  pub fault_is : fault ≡ Some OutOfMemory

-- all workers have returned; the volumes are in order, and at most as many as there are lines that seal
pub record AreGathered (l : LayoutParts) (olds : List SeatValue) (scripts : List (List Line))
    (news : List SeatValue) (volumes : List Volume) (lists : List (List LineEnd))
    (fault : Option RunFault) : Type 0 where
  pub handed : List Volume
  pub workers : AreWorkers l olds scripts news handed lists fault
  pub same : IsPermutation handed volumes
  pub order : AreInOrder volumes
  pub few : length volumes ≤ seals_in_all scripts

-- if some line ended because the history was full, the number of all records has reached the limit
-- of a history, or no serial is left
abbrev pub ReachWhereFull : LayoutParts → List (List LineEnd) → (all : ℕ) → Type 0
ReachWhereFull l lists all =
    (cpu : ℕ) (own : List LineEnd) (at : ℕ) (end : LineEnd) → slice_get lists cpu ≡ Some own
    → slice_get own at ≡ Some end → EndsFull end → IsReached l all

-- how a run of workers ends: memory ran out before any worker started, or all workers have returned
abbrev pub IsRunEnd : LayoutParts → List SeatValue → List (List Line) → List SeatValue → List Volume
    → List (List LineEnd) → Option RunFault → Type 0
IsRunEnd l olds scripts news volumes lists fault =
    AreUnstarted olds news volumes lists fault ⊎ AreGathered l olds scripts news volumes lists fault
