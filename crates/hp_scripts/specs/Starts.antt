-- The machine after a scenario's setup, and the scripts of the lines after it.
use Rattle.std.specs.Prelude.{◌≡◌, ℕ, List, [], ◌++◌, Option, length, take, drop}
use Rattle.hp_units.specs.LayoutParts.{LayoutParts}
use Rattle.hp_machine.specs.Machine.{MachineValue, booted}
use Rattle.hp_schedules.specs.declared.scripts.Step.{Step}
use Rattle.hp_scenario.specs.declared.lines.Line.{Line}
use Rattle.hp_scenario.specs.declared.unfit.Unfit.{Unfit}
use Rattle.hp_scenario.specs.Scenario.{ScenarioValue}
use Rattle.hp_scripts.specs.Begins.{begins_in}
use Rattle.hp_scripts.specs.Checks.{AreFit, IsFirstUnfit}
use Rattle.hp_scripts.specs.ScriptResults.{script_sources}
use Rattle.hp_scripts.specs.Scripts.{scripts_of}
use Rattle.hp_scripts.specs.Setup.{RunsLines}
use Rattle.hp_scripts.specs.declared.begins.Begin.{Begin}
use Rattle.hp_scripts.specs.declared.start_fault.StartFault.{StartFault}
use Rattle.hp_scripts.specs.declared.start_fault.StartFault.TheVariants.{NotForScript, OutOfMemory}

-- the machine after the lines `before`, run in order from boot, and the scripts of the lines `after`.
-- For each line of `after` that works on the result of another, `sources` has the index of that line in
-- `after`
pub record IsStart (l : LayoutParts) (before after : List Line) (sources : List (Option ℕ))
    (start : MachineValue) (scripts : List (List Step)) : Type 0 where
  pub sealed : List Begin
  pub run : RunsLines (booted l) [] before start sealed
  pub are : scripts ≡ scripts_of l.cpus (sealed ++ begins_in start.history) after sources

-- line number `place` is the first after the setup that may not be in a script
abbrev pub IsUnfitAfter : (setup place : ℕ) → Unfit → ScenarioValue → Type 0
IsUnfitAfter setup place why s =
    IsFirstUnfit s.layout.cpus (length (take setup s.lines)) (drop setup s.lines) place why

-- the start of a search after `setup` lines; the later lines may all be in scripts. For each line
-- of the scenario, `sources` has the index of the line whose result it works on, if there is one
pub record HasStart (s : ScenarioValue) (sources : List (Option ℕ)) (setup : ℕ) (start : MachineValue)
    (scripts : List (List Step)) : Type 0 where
  pub fit : AreFit s.layout.cpus (drop setup s.lines) (length (drop setup s.lines))
  pub begun : IsStart s.layout (take setup s.lines) (drop setup s.lines) (script_sources setup sources)
      start scripts

-- either a line after the setup may not be in a script, and the fault gives the first such line, or
-- memory ran out
abbrev pub HasNoStart : ScenarioValue → (setup : ℕ) → StartFault → Type 0
HasNoStart s setup (NotForScript place why) = IsUnfitAfter setup place why s
HasNoStart s setup OutOfMemory = Unit {0}
