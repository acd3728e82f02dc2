-- Conditions on a scenario's bytes, after its setup.
use Rattle.std.specs.Prelude.{◌≡◌, ℕ, List, take, Ok}
use Rattle.hp_machine.specs.Machine.{MachineValue}
use Rattle.hp_schedules.specs.declared.scripts.Step.{Step}
use Rattle.hp_schedules.specs.Schedules.{Setting}
use Rattle.hp_explore.specs.Settings.{setting}
use Rattle.hp_scripts.specs.Named.{NamedValue, named_in}
use Rattle.hp_scripts.specs.Resolved.{Resolves}
use Rattle.hp_scenario.specs.declared.lines.Line.{Line}
use Rattle.hp_scripts.specs.Starts.{HasStart}

-- the lines after the first `setup` may be in scripts. `P` holds of these scripts, and of the machine
-- after the first `setup` lines, which are run in order from boot
pub record HoldsAfter (P : Setting → Type 0) (setup : ℕ) (s : NamedValue) : Type 0 where
  pub start : MachineValue
  pub scripts : List (List Step)
  pub begun : HasStart s.scenario s.sources setup start scripts
  pub holds : P (setting start scripts)

-- the bytes are a scenario. `P` holds of it with numbers in place of the names for results of its
-- first `count` lines. These lines, run in order, give the numbers
pub record InScenario (input : List ℕ) (count : ℕ) (P : NamedValue → Type 0) : Type 0 where
  pub named : NamedValue
  pub read : named_in input ≡ Ok named
  pub plain : NamedValue
  pub resolved : Resolves count named plain
  pub holds : P plain

-- the bytes are a scenario whose lines after the setup may be in scripts. `P` holds of the names of its
-- owners, of the setup's lines, and of the setting in which the scripts begin
abbrev pub HoldsIn : (P : (names : List (List ℕ)) → (before : List Line) → Setting → Type 0)
    → (input : List ℕ) → (setup : ℕ) → Type 0
HoldsIn P input setup =
    InScenario input setup
    (λ s. HoldsAfter (P s.scenario.names (take setup s.scenario.lines)) setup s)
