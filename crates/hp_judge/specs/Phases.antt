-- The phases of a memory block, and the events of a block that goes from one to another.
use Rattle.std.specs.Prelude.{Bool, true, false, List, [], ◌∷◌, ◌++◌, Option, None, unwrap_or}
use Rattle.std.specs.Bool.{then_some}
use Rattle.std.specs.Option.{option_map_or}
use Rattle.hp_units.specs.Numbers.{Block}
use Rattle.hp_judge.specs.LawfulNames.{LogEvent, OnlineBegins, OnlineEnds, OfflineBegins, OfflineEnds, Zone, NormalZone, MovableZone, State, OfflineState, OnlineState, GoingState, AbsentState, Wish, OffWish, NormalWish, MovableWish, Claim, Row}

-- a block is offline, going online into a zone, online in a zone, or going offline from a zone
pub data BlockPhase : Type 0 where
  Offline : BlockPhase
  GoingOnline : (zone : Zone) → BlockPhase
  Online : (zone : Zone) → BlockPhase
  GoingOffline : (zone : Zone) → BlockPhase

-- ---- the phase of a row

-- the phase of an offline block that an operation holds, by the operation's wish for it: offline,
-- or going online into a zone
abbrev pub wished_phase : Wish → BlockPhase
wished_phase OffWish = Offline
wished_phase NormalWish = GoingOnline NormalZone
wished_phase MovableWish = GoingOnline MovableZone

-- the phase from the parts of a row; in a log an absent block is offline
abbrev pub phase_by : State → Option Zone → Option Claim → BlockPhase
phase_by OfflineState _ claim = option_map_or (λ c. wished_phase c.wish) claim Offline
phase_by OnlineState zone _ = Online (unwrap_or zone NormalZone)
phase_by GoingState zone _ = GoingOffline (unwrap_or zone NormalZone)
phase_by AbsentState _ _ = Offline

abbrev pub phase_of : Row → BlockPhase
phase_of row = phase_by row.state row.zone row.claim

-- ---- from one phase to another

abbrev pub same_zone : Zone → Zone → Bool
same_zone NormalZone NormalZone = true
same_zone MovableZone MovableZone = true
same_zone zone other = false

-- the events of a block that goes offline from this phase
abbrev pub to_offline : Block → BlockPhase → List LogEvent
to_offline block Offline = []
to_offline block (GoingOnline zone) = OnlineEnds block false ∷ []
to_offline block (Online zone) = OfflineBegins block ∷ OfflineEnds block true ∷ []
to_offline block (GoingOffline zone) = OfflineEnds block true ∷ []

-- the events of an offline block that goes into this phase
abbrev pub from_offline : Block → BlockPhase → List LogEvent
from_offline block Offline = []
from_offline block (GoingOnline zone) = OnlineBegins block zone ∷ []
from_offline block (Online zone) = OnlineBegins block zone ∷ OnlineEnds block true ∷ []
from_offline block (GoingOffline zone) =
    OnlineBegins block zone ∷ OnlineEnds block true ∷ OfflineBegins block ∷ []

-- the events between two phases of one zone, if the block need not go offline in between
abbrev pub direct_events : Block → BlockPhase → BlockPhase → Option (List LogEvent)
direct_events block (GoingOnline zone) (GoingOnline next) = then_some (same_zone zone next) []
direct_events block (GoingOnline zone) (Online next) =
    then_some (same_zone zone next) (OnlineEnds block true ∷ [])
direct_events block (Online zone) (Online next) = then_some (same_zone zone next) []
direct_events block (Online zone) (GoingOffline next) =
    then_some (same_zone zone next) (OfflineBegins block ∷ [])
direct_events block (GoingOffline zone) (Online next) =
    then_some (same_zone zone next) (OfflineEnds block false ∷ [])
direct_events block (GoingOffline zone) (GoingOffline next) = then_some (same_zone zone next) []
direct_events block from to = None

-- the events of a block that goes from one phase to another, through offline unless there is a
-- direct way; an undo can make any of these changes in one step
abbrev pub phase_events : Block → BlockPhase → BlockPhase → List LogEvent
phase_events block from to =
    unwrap_or (direct_events block from to) (to_offline block from ++ from_offline block to)
