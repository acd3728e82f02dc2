-- When each fault comes.
use Rattle.std.specs.Prelude.{◌≡◌, ◌≢◌, ◌⊎◌, ℕ, ◌<◌, List, length, Option, Some, None, Ok, Err, IfSome}
use Rattle.hp_units.specs.LayoutParts.{LayoutParts}
use Rattle.hp_machine.specs.Machine.{MachineValue}
use Rattle.hp_history.specs.declared.volumes.Volume.{Volume}
use Rattle.hp_machine.specs.declared.replaying.ReplayFault.{ReplayFault}
use Rattle.hp_machine.specs.declared.replaying.ReplayFault.TheVariants as replaying
use Rattle.hp_machine.specs.declared.chains.ChainFault.{ChainFault}
use Rattle.hp_machine.specs.declared.chains.ChainFault.TheVariants as chain
use Rattle.hp_scenario.specs.declared.fault.ScenarioFault.{ScenarioFault}
use Rattle.hp_scenario.specs.declared.fault.ScenarioFault.TheVariants as scenario
use Rattle.hp_scenario.specs.declared.lines.Line.{Line}
use Rattle.hp_scenario.specs.Scenario.{ScenarioValue, scenario_in}
use Rattle.hp_scenario.specs.Scripts.{scripts_of}
use Rattle.hp_shared.specs.Closing.{HasCause}
use Rattle.hp_shared.specs.Shared.{SeatValue, first_seats}
use Rattle.hp_shared.specs.declared.closing.CloseFault.{CloseFault}
use Rattle.hp_shared.specs.declared.closing.CloseFault.TheVariants as closing
use Rattle.hp_streams.specs.Reading.{limit}
use Rattle.hp_streams.specs.declared.reading.ReadFault.{ReadFault}
use Rattle.hp_streams.specs.declared.reading.ReadFault.TheVariants as reading
use Rattle.hp_shared.specs.Seals.{seals_in_all}
use Rattle.hp_shared.specs.Workers.{AreGathered, IsRunEnd}
use Rattle.hp_shared.specs.declared.lines.LineEnd.{LineEnd}
use Rattle.hp_shared.specs.declared.fault.RunFault.{RunFault}
use Rattle.hp_shared.specs.declared.fault.RunFault.TheVariants as running
use Rattle.hp_commands.specs.declared.fault.ProgramFault.{ProgramFault}
use Rattle.hp_commands.specs.declared.fault.ProgramFault.TheVariants.{ReadFailed, TooLong, NotJson, BadShape, Layout, BadLine, NotForRun, OutOfMemory, NotStarted, SeatMissing, Mismatch, WrongReply, WrongSerial, AuditDiffers, WriteFailed, BrokenChain}
use Rattle.hp_commands.specs.declared.commands.Command.{Command}
use Rattle.hp_commands.specs.declared.commands.Command.TheVariants.{Serial, Run, Audit}
use Rattle.hp_commands.specs.Audits.{HasAuditFault}
use Rattle.hp_commands.specs.Runs.{IsRunOf, SealsSome, scripts_in}

abbrev pub read_fault_from : ReadFault → ProgramFault
read_fault_from reading.ReadFailed = ReadFailed
read_fault_from reading.TooLong = TooLong
read_fault_from reading.OutOfMemory = OutOfMemory

abbrev pub fault_from : ScenarioFault → ProgramFault
fault_from scenario.NotJson = NotJson
fault_from scenario.BadShape = BadShape
fault_from (scenario.Layout fault) = Layout fault
fault_from (scenario.BadLine line) = BadLine line
fault_from (scenario.NotForRun line) = NotForRun line
fault_from scenario.OutOfMemory = OutOfMemory

abbrev pub run_fault_from : RunFault → ProgramFault
run_fault_from (running.NotStarted cpu) = NotStarted cpu
run_fault_from running.OutOfMemory = OutOfMemory

abbrev pub close_fault_from : CloseFault → ProgramFault
close_fault_from closing.SeatMissing = SeatMissing
close_fault_from (closing.WrongVolume at) = BrokenChain at
close_fault_from (closing.Mismatch serial) = Mismatch serial
close_fault_from closing.OutOfMemory = OutOfMemory

abbrev pub replay_fault_from : ReplayFault → ProgramFault
replay_fault_from (replaying.WrongReply serial) = WrongReply serial
replay_fault_from (replaying.WrongSerial at) = WrongSerial at
replay_fault_from replaying.OutOfMemory = OutOfMemory

abbrev pub chain_fault_from : ChainFault → ProgramFault
chain_fault_from (chain.WrongCount at) = BrokenChain at
chain_fault_from (chain.WrongBase at) = BrokenChain at
chain_fault_from (chain.Replay at fault) = replay_fault_from fault
chain_fault_from chain.OutOfMemory = OutOfMemory

-- if the bytes that were read are known, they are not a scenario, with this fault
abbrev pub IsNone : Option (List ℕ) → ScenarioFault → Type 0
IsNone known fault = IfSome known (λ input. scenario_in input ≡ Err fault)

-- ---- scripts that are not run to the end

-- the workers of the scripts ended with this fault
pub record IsStopped (l : LayoutParts) (scripts : List (List Line)) (why : RunFault) : Type 0 where
  pub seats : List SeatValue
  pub volumes : List Volume
  pub ends : List (List LineEnd)
  pub run : IsRunEnd l (first_seats l.cpus) scripts seats volumes ends (Some why)

-- all lines of the scripts were run, and the machine was not closed, for this cause
pub record IsUnclosed (l : LayoutParts) (scripts : List (List Line)) (why : CloseFault) : Type 0 where
  pub seats : List SeatValue
  pub volumes : List Volume
  pub ends : List (List LineEnd)
  pub workers : AreGathered l (first_seats l.cpus) scripts seats volumes ends None
  pub cause : HasCause l seats volumes why

-- why scripts are not run to the end: memory ran out; a worker other than the first was not
-- started; or the machine was not closed. SeatMissing never occurs
abbrev pub IsWorkFault : LayoutParts → List (List Line) → ProgramFault → Type 0
IsWorkFault l scripts OutOfMemory = Unit {0}
IsWorkFault l scripts (NotStarted cpu) =
    (0 < cpu) × (cpu < l.cpus) × IsStopped l scripts (running.NotStarted cpu)
IsWorkFault l scripts (Mismatch serial) = IsUnclosed l scripts (closing.Mismatch serial)
IsWorkFault l scripts (BrokenChain at) =
    (seals_in_all scripts ≢ 0) × IsUnclosed l scripts (closing.WrongVolume at)
IsWorkFault l scripts _ = ⊥

-- the bytes are a scenario whose scripts are not run to the end, for this reason
pub record IsUnfinished (input : List ℕ) (fault : ProgramFault) : Type 0 where
  pub scenario : ScenarioValue
  pub read : scenario_in input ≡ Ok scenario
  pub scripts : List (List Line)
  pub parted : scripts_of scenario ≡ Ok scripts
  pub why : IsWorkFault scenario.layout scripts fault

-- the bytes are a scenario whose scripts are run to the end, and an audit fails with this fault
pub record IsRefuted (input : List ℕ) (fault : ProgramFault) : Type 0 where
  pub ends : List (List LineEnd)
  pub volumes : List Volume
  pub machine : MachineValue
  pub count : ℕ
  pub run : IsRunOf input ends volumes machine count
  pub why : HasAuditFault volumes machine fault

-- ---- the commands

-- the command runs workers
abbrev pub HasWorkers : Command → Type 0
HasWorkers Serial = ⊥
HasWorkers Run = Unit {0}
HasWorkers Audit = Unit {0}

-- the command replays the records
abbrev pub IsAudit : Command → Type 0
IsAudit Serial = ⊥
IsAudit Run = ⊥
IsAudit Audit = Unit {0}

-- when each fault occurs; `read` and `written` state that a call of the reader or the writer
-- failed. SeatMissing, WrongReply and WrongSerial never occur. AuditDiffers and BrokenChain occur
-- only if some line seals
abbrev pub IsFaultOf : Command → (known : Option (List ℕ)) (read written : Type 0) → ProgramFault → Type 0
IsFaultOf command known read written ReadFailed = read
IsFaultOf command known read written TooLong = IfSome known (λ input. limit < length input)
IsFaultOf command known read written NotJson = IsNone known scenario.NotJson
IsFaultOf command known read written BadShape = IsNone known scenario.BadShape
IsFaultOf command known read written (Layout fault) = IsNone known (scenario.Layout fault)
IsFaultOf command known read written (BadLine line) = IsNone known (scenario.BadLine line)
IsFaultOf command known read written (NotForRun line) =
    HasWorkers command × IfSome known (λ input. scripts_in input ≡ Err (scenario.NotForRun line))
IsFaultOf command known read written OutOfMemory = Unit {0}
IsFaultOf command known read written (NotStarted cpu) =
    HasWorkers command × IfSome known (λ input. IsUnfinished input (NotStarted cpu))
IsFaultOf command known read written SeatMissing = ⊥
IsFaultOf command known read written (Mismatch serial) =
    HasWorkers command × IfSome known (λ input. IsUnfinished input (Mismatch serial))
IsFaultOf command known read written (WrongReply serial) = ⊥
IsFaultOf command known read written (WrongSerial at) = ⊥
IsFaultOf command known read written AuditDiffers =
    IsAudit command × IfSome known (λ input. SealsSome input × IsRefuted input AuditDiffers)
IsFaultOf command known read written WriteFailed = written
IsFaultOf command known read written (BrokenChain at) =
    HasWorkers command × IfSome known
    (λ input. SealsSome input
    × (IsUnfinished input (BrokenChain at) ⊎ (IsAudit command × IsRefuted input (BrokenChain at))))
