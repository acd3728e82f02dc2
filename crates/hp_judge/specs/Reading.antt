-- What a log shows of the machine that wrote it, event by event.
use Rattle.std.specs.Prelude.{Bool, true, false, not, ◌&&◌, ◌||◌, if◌then◌else◌, List, fold}
use Rattle.std.specs.List.{list_any}
use Rattle.hp_units.specs.Numbers.{Frame, Block}
use Rattle.hp_units.specs.Arithmetic.{all_frames}
use Rattle.hp_units.specs.LayoutParts.{LayoutParts}
use Rattle.hp_units.specs.Memory.{Memory, row_of}
use Rattle.hp_judge.specs.Events.{allocates, frees, is_of}
use Rattle.hp_judge.specs.LawfulNames.{LogEvent, OnlineBegins, OnlineEnds, OfflineBegins, OfflineEnds, MachineSize}
use Rattle.hp_judge.specs.Phases.{BlockPhase, Offline, GoingOnline, Online, GoingOffline, phase_of}
use Rattle.hp_judge.specs.Pieces.{is_frame_of, piece_at}

-- a machine as a log shows it: whether a frame is in use, and the phase of a memory block
pub record Shown : Type 0 where
  pub used : Frame → Bool
  pub phase : Block → BlockPhase

-- what a state shows: a frame is in use if some piece has it
abbrev pub in_use : LayoutParts → Memory → Frame → Bool
in_use l s frame = list_any (λ first. is_frame_of frame first (piece_at s first)) (all_frames l)

abbrev pub shown : LayoutParts → Memory → Shown
shown l s = record { used = in_use l s; phase = λ block. phase_of (row_of s.blocks block) }

-- the phase of a block after an event of it
abbrev pub next_phase : LogEvent → BlockPhase → BlockPhase
next_phase (OnlineBegins block zone) phase = GoingOnline zone
next_phase (OnlineEnds block true) (GoingOnline zone) = Online zone
next_phase (OnlineEnds block false) phase = Offline
next_phase (OfflineBegins block) (Online zone) = GoingOffline zone
next_phase (OfflineEnds block true) phase = Offline
next_phase (OfflineEnds block false) (GoingOffline zone) = Online zone
next_phase event phase = phase

-- an alloc puts frames into use, and a free takes them out of use
abbrev pub after_event : MachineSize → Shown → LogEvent → Shown
after_event m s event = record {
  used = λ frame. allocates m frame event || (not (frees m frame event) && s.used frame);
  phase = λ block. if is_of block event then next_phase event (s.phase block) else s.phase block;
}

abbrev pub after_log : MachineSize → Shown → List LogEvent → Shown
after_log m s log = fold (after_event m) s log
