-- A scenario made ready for a search: the machine after its setup, and the scripts of its later
-- lines.
use Rattle.std.specs.Prelude.{◌≡◌, ◌≤◌, ℕ, List, length, take, drop, Option, Some, None, option_map, Ok}
use Rattle.hp_units.specs.declared.replies.Record.{Record}
use Rattle.hp_machine.specs.Machine.{MachineValue}
use Rattle.hp_schedules.specs.Schedules.{Setting}
use Rattle.hp_explore.specs.Settings.{setting}
use Rattle.hp_scenario.specs.declared.lines.Line.{Line}
use Rattle.hp_scenario.specs.Seen.{scenario_seen}
use Rattle.hp_scripts.specs.Named.{NamedValue, named_in}
use Rattle.hp_scripts.specs.Resolved.{Resolves}
use Rattle.hp_scripts.specs.Starts.{HasStart}
use Rattle.hp_search.specs.Faults.{IsFaultWith}
use Rattle.hp_search.specs.declared.lab_fault.LabFault.{LabFault}
use Rattle.hp_search.specs.declared.prepared.Prepared.{Prepared}

-- the setting of the search: the machine and the scripts
abbrev pub setting_of : Prepared → Setting
setting_of p = setting p.start.machine p.start.scripts.items

-- the names of the owners
abbrev pub names_of : Prepared → List (List ℕ)
names_of p = p.scenario.names.keys

-- the lines of the setup
abbrev pub before_of : Prepared → List Line
before_of p = take p.setup p.scenario.lines

-- `p` is the scenario in the bytes, made ready for a search after its first `setup` lines. Numbers
-- replace the names for results of these lines
pub record IsPrepared (input : List ℕ) (setup : ℕ) (p : Prepared) : Type 0 where
  pub number : p.setup ≡ setup
  pub named : NamedValue
  pub read : named_in input ≡ Ok named
  pub plain : NamedValue
  pub resolved : Resolves setup named plain
  pub scenario : plain.scenario ≡ scenario_seen p.scenario
  pub begun : HasStart plain.scenario plain.sources setup p.start.machine p.start.scripts.items

-- the cause of each fault in preparing a scenario. Either the bytes are not a scenario, or a line
-- after the setup may not be in a script, or memory ran out
abbrev pub IsUnprepared : (input : List ℕ) → (setup : ℕ) → LabFault → Type 0
IsUnprepared input setup fault = IsFaultWith (λ g f. ⊥) input setup fault

-- the calls after the setup, from the history of the machine that a schedule led to; None if the
-- schedule cannot be played
abbrev pub calls_in : Setting → Option MachineValue → Option (List Record)
calls_in g played = option_map (λ m. drop (length g.start) m.history) played

-- the machine, if there is one, has at least as many records as there were after the setup
abbrev pub GoesOn : Setting → Option MachineValue → Type 0
GoesOn g None = Unit {0}
GoesOn g (Some m) = length g.start ≤ length m.history
