-- From the parts of a run to the whole: what was read, how its lines were parted and worked off, and why not.
use Rattle.std.proofs.Common.{◌≡◌, ℕ, ◌<◌, List, length, Option, Some, None, Ok, sym, ◌∙◌, arith, inl, inr}
use Rattle.std.specs.Prelude.{◌≢◌, ◌⊎◌}
use Rattle.std.proofs.lemmas.List.FromFn.{length-map-range_with_len}
use Rattle.std.proofs.lemmas.Option.{slice_get_within}
use Rattle.hp_units.specs.Boot.{boot_memory}
use Rattle.hp_units.specs.LayoutParts.{LayoutParts}
use Rattle.hp_machine.specs.Machine.{MachineValue}
use Rattle.hp_history.specs.Volumes.{records_in}
use Rattle.hp_history.specs.declared.volumes.Volume.{Volume}
use Rattle.hp_scenario.specs.declared.fault.ScenarioFault.{ScenarioFault}
use Rattle.hp_scenario.specs.declared.fault.ScenarioFault.TheVariants as scenario
use Rattle.hp_scenario.specs.declared.lines.Line.{Line}
use Rattle.hp_scenario.specs.Gives.{Fails}
use Rattle.hp_scenario.specs.Scenario.{ScenarioValue, scenario_in}
use Rattle.hp_scenario.specs.Scripts.{scripts_of}
use Rattle.hp_shared.specs.declared.closing.CloseFault.{CloseFault}
use Rattle.hp_shared.specs.declared.closing.CloseFault.TheVariants as closing
use Rattle.hp_shared.specs.Closing.{HasCause, IsClosed}
use Rattle.hp_shared.specs.Shared.{SeatValue, first_seat, first_seats}
use Rattle.hp_shared.specs.Volumes.{IsMiscounted}
use Rattle.hp_shared.specs.declared.fault.RunFault.{RunFault}
use Rattle.hp_shared.specs.declared.fault.RunFault.TheVariants as running
use Rattle.hp_shared.specs.declared.lines.LineEnd.{LineEnd}
use Rattle.hp_shared.specs.Seals.{seals_in_all}
use Rattle.hp_shared.specs.Workers.{AreGathered, IsRunEnd}
use Rattle.hp_shared.proofs.FullRuns.{reach_where_full}
use Rattle.hp_commands.specs.Faults.{IsFaultOf, IsUnfinished, IsWorkFault, close_fault_from, fault_from, run_fault_from}
use Rattle.hp_commands.specs.Runs.{IsRunOf, IsWorkedOff}
use Rattle.hp_commands.specs.declared.fault.ProgramFault.{ProgramFault}
use Rattle.hp_commands.specs.declared.fault.ProgramFault.TheVariants.{OutOfMemory, NotStarted, Mismatch, BrokenChain}
use Rattle.hp_commands.specs.declared.commands.Command.TheVariants.{Run}
use Rattle.hp_commands.proofs.Seated.{has_each, not_first, seals_counted}
use Rattle.hp_commands.proofs.Unfit.{only_not_for_run}

-- ---- why not

-- the bytes are no scenario
pub unread : (input : List ℕ) (fault : ScenarioFault) → Fails fault (scenario_in input)
    → IsFaultOf Run (Some input) ⊥ ⊥ (fault_from fault)
unread input (scenario.NotForRun line) h = (tt, rw h)
unread input scenario.OutOfMemory h = tt
unread input _ h = h

-- a line of theirs is not for run
pub unfit : (input : List ℕ) (s : ScenarioValue) (fault : ScenarioFault) → scenario_in input ≡ Ok s
    → Fails fault (scripts_of s) → IsFaultOf Run (Some input) ⊥ ⊥ (fault_from fault)
unfit input s (scenario.NotForRun line) read h = (tt, rw read h)
unfit input s scenario.OutOfMemory read h = tt
unfit input s fault read h = absurd (only_not_for_run s fault h)

-- the worker that was not started is of another processor than the first
other_than_first : (l : LayoutParts) (scripts : List (List Line)) (news : List SeatValue)
    (volumes : List Volume) (ends : List (List LineEnd)) (cpu : ℕ)
    → length scripts ≡ l.cpus
    → IsRunEnd l (first_seats l.cpus) scripts news volumes ends (Some (running.NotStarted cpu))
    → (0 < cpu) × (cpu < l.cpus)
other_than_first l scripts news volumes ends cpu count (inl unstarted) =
    let bad : Some (running.NotStarted cpu) ≡ Some running.OutOfMemory = unstarted.fault_is in absurd cc
other_than_first l scripts news volumes ends cpu count (inr all) =
    not_first l scripts news all.handed ends cpu count all.workers

-- a worker was not started, or it was out of memory
pub unstarted : (l : LayoutParts) (olds : List SeatValue) (scripts : List (List Line)) (news : List SeatValue)
    (volumes : List Volume) (ends : List (List LineEnd)) (ended : Option RunFault) (fault : RunFault)
    → olds ≡ first_seats l.cpus → ended ≡ Some fault → length scripts ≡ l.cpus
    → IsRunEnd l olds scripts news volumes ends ended → IsWorkFault l scripts (run_fault_from fault)
unstarted l olds scripts news volumes ends ended (running.NotStarted cpu) first is count run =
    let here = rw (first, is) at run in
    let other = other_than_first l scripts news volumes ends cpu count here in
    (other.0, other.1, record { seats = news; volumes = volumes; ends = ends; run = here })
unstarted l olds scripts news volumes ends ended running.OutOfMemory first is count run = tt

-- a volume that does not follow is there, so a line seals
some_seals : (l : LayoutParts) (scripts : List (List Line)) (seats : List SeatValue)
    (ends : List (List LineEnd)) (volumes : List Volume) (at : ℕ)
    → length scripts ≡ l.cpus → AreGathered l (first_seats l.cpus) scripts seats volumes ends None
    → HasCause l seats volumes (closing.WrongVolume at) → seals_in_all scripts ≢ 0
some_seals l scripts seats ends volumes at count all cause none = by_place cause.fault.1.wrong
  where
    by_place : IsMiscounted volumes at
        ⊎ ((at ≡ length volumes) × (records_in volumes ≢ cause.seen.machine.before)) → ⊥
    by_place (inl (v, here, other)) =
        let inside = slice_get_within volumes at v here in omega (arith, inside, all.few, none)
    by_place (inr (last, other)) =
        let full : length seats ≡ l.cpus =
        all.workers.seats ∙ length-map-range_with_len first_seat 0 l.cpus in
        other (sym (seals_counted l scripts seats volumes ends None count all) ∙ (cause.all full).handed)

-- the machine was not closed: no seat is missing
pub unclosed : (l : LayoutParts) (scripts : List (List Line)) (seats : List SeatValue)
    (ends : List (List LineEnd)) (volumes : List Volume) (fault : CloseFault)
    → length scripts ≡ l.cpus → AreGathered l (first_seats l.cpus) scripts seats volumes ends None
    → HasCause l seats volumes fault → IsWorkFault l scripts (close_fault_from fault)
unclosed l scripts seats ends volumes closing.SeatMissing count all cause =
    absurd (cause.fault (has_each l scripts seats all.handed ends None count all.workers))
unclosed l scripts seats ends volumes (closing.WrongVolume at) count all cause = (
  some_seals l scripts seats ends volumes at count all cause,
  record { seats = seats; volumes = volumes; ends = ends; workers = all; cause = cause },
)
unclosed l scripts seats ends volumes (closing.Mismatch serial) count all cause =
    record { seats = seats; volumes = volumes; ends = ends; workers = all; cause = cause }
unclosed l scripts seats ends volumes closing.OutOfMemory count all cause = tt

-- so the command fails
unfinished : (input : List ℕ) (s : ScenarioValue) (scripts : List (List Line)) (fault : ProgramFault)
    → scenario_in input ≡ Ok s → scripts_of s ≡ Ok scripts → IsWorkFault s.layout scripts fault
    → IsUnfinished input fault
unfinished input s scripts fault read parted h =
    record { scenario = s; read = read; scripts = scripts; parted = parted; why = h }

pub work_fails : (input : List ℕ) (s : ScenarioValue) (scripts : List (List Line)) (fault : ProgramFault)
    → scenario_in input ≡ Ok s → scripts_of s ≡ Ok scripts → IsWorkFault s.layout scripts fault
    → IsFaultOf Run (Some input) ⊥ ⊥ fault
work_fails input s scripts OutOfMemory read parted h = tt
work_fails input s scripts (NotStarted cpu) read parted h =
    (tt, unfinished input s scripts (NotStarted cpu) read parted h)
work_fails input s scripts (Mismatch serial) read parted h =
    (tt, unfinished input s scripts (Mismatch serial) read parted h)
work_fails input s scripts (BrokenChain at) read parted h =
    (tt, ((scripts, rw read parted, h.0), inl (unfinished input s scripts (BrokenChain at) read parted h)))
work_fails input s scripts _ read parted h = absurd h

-- in the layout of the machine that was booted
pub work_fails_at : (input : List ℕ) (s : ScenarioValue) (l : LayoutParts) (scripts : List (List Line))
    (fault : ProgramFault)
    → l ≡ s.layout → scenario_in input ≡ Ok s → scripts_of s ≡ Ok scripts → IsWorkFault l scripts fault
    → IsFaultOf Run (Some input) ⊥ ⊥ fault
work_fails_at input s l scripts fault same read parted h =
    work_fails input s scripts fault read parted (rw same at h)

-- ---- the run

-- without a fault all workers ran their scripts
pub all_ran : (l : LayoutParts) (olds : List SeatValue) (scripts : List (List Line)) (news : List SeatValue)
    (volumes : List Volume) (ends : List (List LineEnd)) (fault : Option RunFault)
    → olds ≡ first_seats l.cpus → fault ≡ None → IsRunEnd l olds scripts news volumes ends fault
    → AreGathered l (first_seats l.cpus) scripts news volumes ends None
all_ran l olds scripts news volumes ends fault first none (inl unstarted) =
    let bad : None ≡ Some running.OutOfMemory = sym none ∙ unstarted.fault_is in absurd cc
all_ran l olds scripts news volumes ends fault first none (inr all) =
    rw (first, none) at all

pub worked_off : (l : LayoutParts) (scripts : List (List Line)) (seats : List SeatValue)
    (volumes back : List Volume) (ends : List (List LineEnd)) (m : MachineValue) (count : ℕ)
    → AreGathered l (first_seats l.cpus) scripts seats volumes ends None → back ≡ volumes
    → IsClosed l seats volumes m count → (m.before ≡ 0 → m.base ≡ boot_memory m.layout)
    → IsWorkedOff l scripts ends back m count
worked_off l scripts seats volumes back ends m count all same closed boots =
    rw same (record {
      seats = seats;
      handed = all.handed;
      workers = all.workers;
      same = all.same;
      order = all.order;
      few = all.few;
      closed = closed;
      boots = boots;
    })

pub run_is : (input : List ℕ) (s : ScenarioValue) (scripts : List (List Line)) (ends : List (List LineEnd))
    (volumes : List Volume) (m : MachineValue) (count : ℕ)
    → scenario_in input ≡ Ok s → scripts_of s ≡ Ok scripts → length scripts ≡ s.layout.cpus
    → IsWorkedOff s.layout scripts ends volumes m count → IsRunOf input ends volumes m count
run_is input s scripts ends volumes m count read parted each worked =
    record {
      scenario = s;
      read = read;
      scripts = scripts;
      parted = parted;
      worked = worked;
      full =
          reach_where_full s.layout (first_seats s.layout.cpus) scripts worked.seats worked.handed ends None
          count worked.workers
          (omega (arith, each, length-map-range_with_len first_seat 0 s.layout.cpus)) worked.closed.reached;
    }
