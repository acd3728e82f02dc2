-- The texts of `run` and `audit`.
use Rattle.std.specs.Prelude.{◌≡◌, ◌≢◌, ◌≤◌, ℕ, List, [], ◌++◌, codes, length, slice_get, Option, Some, None, Result, Ok}
use Rattle.std.specs.Fmt.{decimal}
use Rattle.std.specs.List.{flat_map}
use Rattle.std.specs.List.Sorted.{IsPermutation}
use Rattle.hp_units.specs.Boot.{boot_memory}
use Rattle.hp_units.specs.LayoutParts.{LayoutParts}
use Rattle.hp_machine.specs.Machine.{MachineValue}
use Rattle.hp_history.specs.declared.volumes.Volume.{Volume}
use Rattle.hp_scenario.specs.declared.fault.ScenarioFault.{ScenarioFault}
use Rattle.hp_scenario.specs.declared.lines.Line.{Line}
use Rattle.hp_scenario.specs.Gives.{◌>>=◌}
use Rattle.hp_scenario.specs.Scenario.{ScenarioValue, scenario_in}
use Rattle.hp_scenario.specs.Scripts.{scripts_of}
use Rattle.hp_shared.specs.Closing.{IsClosed}
use Rattle.hp_shared.specs.Shared.{SeatValue, first_seats}
use Rattle.hp_text.specs.Answers.{bare_reply_line, fault_line, sealed_line}
use Rattle.hp_text.specs.FileFaults.{write_fault_line}
use Rattle.hp_text.specs.Plans.{plan_line}
use Rattle.hp_text.specs.State.{newline, texts_below}
use Rattle.hp_shared.specs.declared.lines.LineEnd.{LineEnd}
use Rattle.hp_shared.specs.declared.lines.LineEnd.TheVariants.{Reply as Replied, Fault as Faulted, Plan as Planned, Control as Untaken, Sealed}
use Rattle.hp_shared.specs.Seals.{AreInOrder, seals_in_all}
use Rattle.hp_shared.specs.Workers.{AreWorkers, ReachWhereFull}
use Rattle.hp_commands.specs.Audits.{IsAudited}

-- ---- the text

-- how a line ended
abbrev pub line_end_text : LineEnd → List ℕ
line_end_text (Replied reply) = bare_reply_line reply
line_end_text (Faulted fault) = fault_line fault
line_end_text (Planned end) = plan_line end
line_end_text (Untaken fault) = write_fault_line fault
line_end_text (Sealed count) = sealed_line count

-- a processor, and how each of its lines ended
abbrev pub processor_text : ℕ → Option (List LineEnd) → List ℕ
processor_text cpu None = []
processor_text cpu (Some ends) = codes "cpu " ++ decimal cpu ++ newline ++ flat_map line_end_text ends

-- the processors in increasing order
unfoldable pub processors_text : List (List LineEnd) → List ℕ
processors_text lists = texts_below (λ cpu. processor_text cpu (slice_get lists cpu)) (length lists)

-- how many records a machine made
abbrev pub records_line : ℕ → List ℕ
records_line count = decimal count ++ codes " records" ++ newline

-- ---- the run

-- the scripts of the scenario in the bytes, or why there are none
abbrev pub scripts_in : List ℕ → Result (List (List Line)) ScenarioFault
scripts_in input = scenario_in input >>= scripts_of

-- some line of the scenario in the bytes seals
abbrev pub SealsSome : List ℕ → Type 0
SealsSome input = (scripts : List (List Line)) × (scripts_in input ≡ Ok scripts) × (seals_in_all scripts ≢ 0)

-- each worker ran the whole script of its processor, with these ends, and the seals in the scripts
-- handed out these volumes. All records, those of the volumes and then the machine's own, are
-- exactly those of the workers' receipts
pub record IsWorkedOff (l : LayoutParts) (scripts : List (List Line)) (ends : List (List LineEnd))
    (volumes : List Volume) (m : MachineValue) (count : ℕ) : Type 0 where
  pub seats : List SeatValue
  pub handed : List Volume
  pub workers : AreWorkers l (first_seats l.cpus) scripts seats handed ends None
  pub same : IsPermutation handed volumes
  pub order : AreInOrder volumes
  pub few : length volumes ≤ seals_in_all scripts
  pub closed : IsClosed l seats volumes m count
  pub boots : m.before ≡ 0 → m.base ≡ boot_memory m.layout

-- the scenario's scripts were run to the end. If a line ended because the history was full, then
-- `count`, the number of all records, reaches the limit of a history, or no serial is left
pub record IsRunOf (input : List ℕ) (ends : List (List LineEnd)) (volumes : List Volume) (m : MachineValue)
    (count : ℕ) : Type 0 where
  pub scenario : ScenarioValue
  pub read : scenario_in input ≡ Ok scenario
  pub scripts : List (List Line)
  pub parted : scripts_of scenario ≡ Ok scripts
  pub worked : IsWorkedOff scenario.layout scripts ends volumes m count
  pub full : ReachWhereFull scenario.layout ends count

-- the text of a run: how the lines ended, by processor, and the number of records
pub record IsRunTextOf (input text : List ℕ) : Type 0 where
  pub ends : List (List LineEnd)
  pub volumes : List Volume
  pub machine : MachineValue
  pub count : ℕ
  pub run : IsRunOf input ends volumes machine count
  pub written : text ≡ processors_text ends ++ records_line count

-- the text of an audit: the number of records and `audit ok`. The run's volumes and history lead
-- from boot to the machine's state
pub record IsAuditTextOf (input text : List ℕ) : Type 0 where
  pub ends : List (List LineEnd)
  pub volumes : List Volume
  pub machine : MachineValue
  pub count : ℕ
  pub run : IsRunOf input ends volumes machine count
  pub audited : IsAudited volumes machine
  pub written : text ≡ records_line count ++ codes "audit ok" ++ newline
