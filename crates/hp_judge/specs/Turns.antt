-- The phases of a memory block as in the code, and how a block gets from one to another.
use Rattle.std.specs.Prelude.{Bool, true, false, List, [], ◌∷◌, Option, Some, None}
use Rattle.hp_units.specs.Numbers.{Block}
use Rattle.hp_judge.specs.LawfulNames.{LogEvent, OnlineEnds, OfflineBegins, OfflineEnds}
use Rattle.hp_judge.specs.Phases.{BlockPhase, Offline, GoingOnline, Online, GoingOffline}
use Rattle.hp_judge.specs.StepNames.{Phase, PhaseOffline, PhaseGoingOnline, PhaseOnline, PhaseGoingOffline, Turn, Stays, ComesOnline, BeginsOffline, StaysOnline, ThroughOffline}

abbrev pub phase_seen : Phase → BlockPhase
phase_seen PhaseOffline = Offline
phase_seen (PhaseGoingOnline zone) = GoingOnline zone
phase_seen (PhaseOnline zone) = Online zone
phase_seen (PhaseGoingOffline zone) = GoingOffline zone

-- the events of a turn, which is a change of a block's phase; `None` if it goes through offline
abbrev pub turn_events : Block → Turn → Option (List LogEvent)
turn_events block Stays = Some []
turn_events block ComesOnline = Some (OnlineEnds block true ∷ [])
turn_events block BeginsOffline = Some (OfflineBegins block ∷ [])
turn_events block StaysOnline = Some (OfflineEnds block false ∷ [])
turn_events block ThroughOffline = None

-- the phase is not `Offline`: on a turn through offline, a block in this phase goes offline
abbrev pub goes_offline : BlockPhase → Bool
goes_offline Offline = false
goes_offline (GoingOnline zone) = true
goes_offline (Online zone) = true
goes_offline (GoingOffline zone) = true
