-- What running lines makes of a seat, and how the lines end.
use Rattle.std.specs.Prelude.{◌≡◌, ◌⊎◌, ℕ, ◌≤◌, List, [], ◌∷◌, ◌++◌, Option, Some, None, length, take}
use Rattle.hp_units.specs.Driver.{IsDriverRun}
use Rattle.hp_units.specs.LayoutParts.{LayoutParts}
use Rattle.hp_units.specs.declared.events.Event.{Event}
use Rattle.hp_units.specs.declared.plans.Item.{Item}
use Rattle.hp_units.specs.declared.replies.CallFault.{CallFault}
use Rattle.hp_units.specs.declared.replies.CallFault.TheVariants as call
use Rattle.hp_units.specs.declared.replies.OpEnd.{OpEnd}
use Rattle.hp_units.specs.declared.replies.OpEnd.TheVariants.{Left}
use Rattle.hp_units.specs.declared.replies.Receipt.{Receipt}
use Rattle.hp_ops.specs.Ports.{AreMade, PortValue}
use Rattle.hp_history.specs.declared.volumes.Volume.{Volume}
use Rattle.hp_requests.specs.declared.fault.ControlFault.{ControlFault}
use Rattle.hp_scenario.specs.Asked as asks
use Rattle.hp_scenario.specs.declared.lines.Line.{Line}
use Rattle.hp_shared.specs.Shared.{MayBeFull, SeatValue, left_by}
use Rattle.hp_shared.specs.SeatPorts.{AreTurns}
use Rattle.hp_shared.specs.Volumes.{IsSealOf, sealed_by}
use Rattle.hp_shared.specs.declared.lines.LineEnd.{LineEnd}
use Rattle.hp_shared.specs.declared.lines.LineEnd.TheVariants.{Reply as Replied, Fault as Faulted, Plan as Planned, Control as Untaken, Sealed}

-- a statement about the calls for one line: the receipts that they gained, the fault of the last
-- one, and the line's end
abbrev pub Run : Type 1
Run = List Receipt → Option CallFault → LineEnd → Type 0

-- one event: either one receipt of it, with the reply that is the line's end, or no receipt, and the
-- call's fault is the end
abbrev pub IsEventRun : Event → Run
IsEventRun event gained fault (Replied reply) =
    (r : Receipt) × (gained ≡ r ∷ []) × (fault ≡ None) × (r.event ≡ event) × (r.reply ≡ reply)
IsEventRun event gained fault (Faulted named) = (gained ≡ []) × (fault ≡ Some named)
IsEventRun event gained fault (Planned end) = ⊥
IsEventRun event gained fault (Untaken why) = ⊥
IsEventRun event gained fault (Sealed count) = ⊥

-- memory ran out before the first call of a plan
pub record IsUnasked (gained : List Receipt) (fault : Option CallFault) (end : OpEnd) : Type 0 where
  pub receipts : gained ≡ []
  pub none : fault ≡ None
  pub left : end ≡ Left None call.OutOfMemory

-- a plan: a run of its driver with this end; or memory ran out before the first call
abbrev pub IsPlanRun : (cpus turns : ℕ) → List Item → Run
IsPlanRun cpus turns plan gained fault (Replied reply) = ⊥
IsPlanRun cpus turns plan gained fault (Faulted named) = ⊥
IsPlanRun cpus turns plan gained fault (Planned end) =
    IsDriverRun cpus turns plan gained fault end ⊎ IsUnasked gained fault end
IsPlanRun cpus turns plan gained fault (Untaken why) = ⊥
IsPlanRun cpus turns plan gained fault (Sealed count) = ⊥

-- no call was made, since a control file does not take a text
abbrev pub IsUntaken : ControlFault → Run
IsUntaken why gained fault end = (gained ≡ []) × (fault ≡ None) × (end ≡ Untaken why)

-- calls cannot do the work of this line, which reads a control file or seals
abbrev pub IsNoRun : Run
IsNoRun gained fault end = ⊥

-- what the calls for a line are, by what the line asks for
abbrev pub IsAskedRun : (cpus : ℕ) → asks.Meaning → Run
IsAskedRun cpus (asks.event e) = IsEventRun e
IsAskedRun cpus (asks.plan items turns) = IsPlanRun cpus turns items
IsAskedRun cpus (asks.not_taken why) = IsUntaken why
IsAskedRun cpus (asks.cat path) = IsNoRun
IsAskedRun cpus asks.seal = IsNoRun

-- a line's work was done by calls through a port, and at most the last of them failed
pub record IsPortRun {S : Type 0} (shows : S → PortValue) (makes : S → List Receipt → S → Type 0)
    (leaves : S → CallFault → S → Type 0) (old : S) (Ran : Run) (end : LineEnd) (new : S) : Type 0 where
  pub gained : List Receipt
  pub fault : Option CallFault
  pub made : AreMade makes leaves old gained fault new
  pub ran : Ran gained fault end

-- the seat after a further call that failed with this fault; without a fault, the seat itself
abbrev pub left_with : SeatValue → Option CallFault → SeatValue
left_with seat None = seat
left_with seat (Some fault) = left_by seat fault

-- a line's work was done by calls of a seat, which keeps their receipts. The last call fails with
-- `HistoryFull` only if the seat's counts allow a full history, and then the seat counts it
pub record IsCallsRun (l : LayoutParts) (old : SeatValue) (asked : asks.Meaning) (end : LineEnd)
    (new : SeatValue) : Type 0 where
  pub gained : List Receipt
  pub fault : Option CallFault
  pub called : SeatValue
  pub turns : AreTurns l old gained called
  pub left : new ≡ left_with called fault
  pub line : IsAskedRun l.cpus asked gained fault end
  pub caused : fault ≡ Some call.HistoryFull → MayBeFull l called

-- a seat's seal: it handed out one volume, whose number of records is the end; or none, since
-- memory ran out
abbrev pub IsSealRun : LayoutParts → SeatValue → List Volume → LineEnd → SeatValue → Type 0
IsSealRun l old handed (Replied reply) new = ⊥
IsSealRun l old handed (Faulted named) new = (handed ≡ []) × (named ≡ call.OutOfMemory) × (new ≡ old)
IsSealRun l old handed (Planned end) new = ⊥
IsSealRun l old handed (Untaken why) new = ⊥
IsSealRun l old handed (Sealed count) new =
    (v : Volume) × (handed ≡ v ∷ []) × IsSealOf l v (length old.receipts) × (count ≡ length v.records)
    × (new ≡ sealed_by old v)

-- a line was run by a seat: by calls, which hand out no volume, or by a seal, which handed out these
abbrev pub IsLine : LayoutParts → SeatValue → asks.Meaning → List Volume → LineEnd → SeatValue → Type 0
IsLine l old asked handed end new =
    ((handed ≡ []) × IsCallsRun l old asked end new)
    ⊎ ((asked ≡ asks.seal) × IsSealRun l old handed end new)

-- a line was run by a seat; the volumes that its seal handed out are appended to those before
pub record IsLineRun (l : LayoutParts) (old : SeatValue) (before : List Volume) (asked : asks.Meaning)
    (end : LineEnd) (new : SeatValue) (after : List Volume) : Type 0 where
  pub handed : List Volume
  pub line : IsLine l old asked handed end new
  pub kept : after ≡ before ++ handed

-- a line ended because the history was full
abbrev pub EndsFull : LineEnd → Type 0
EndsFull (Replied reply) = ⊥
EndsFull (Faulted named) = named ≡ call.HistoryFull
EndsFull (Planned end) = (op : Option ℕ) × (end ≡ Left op call.HistoryFull)
EndsFull (Untaken why) = ⊥
EndsFull (Sealed count) = ⊥

-- lines, one after another, were run by a seat, with these volumes and these ends
abbrev pub AreLines : LayoutParts → SeatValue → List Line → List Volume → List LineEnd → SeatValue → Type 0
AreLines l old [] handed ends new = (handed ≡ []) × (ends ≡ []) × (new ≡ old)
AreLines l old (line ∷ lines) handed ends new =
    (mid : SeatValue) × (out : List Volume) × (end : LineEnd) × (more : List Volume)
    × (others : List LineEnd) × (handed ≡ out ++ more) × (ends ≡ end ∷ others)
    × (IsLine l old (asks.asked_by line.work) out end mid × AreLines l mid lines more others new)

-- a seat ran the first `length ends` of its lines, each with its end, and its seals handed out
-- these volumes
pub record IsWorked (l : LayoutParts) (old : SeatValue) (lines : List Line) (new : SeatValue)
    (handed : List Volume) (ends : List LineEnd) : Type 0 where
  pub ran : AreLines l old (take (length ends) lines) handed ends new
  pub within : length ends ≤ length lines
