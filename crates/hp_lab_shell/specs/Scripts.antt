-- What is read from a scenario without a search.
use Rattle.std.specs.Prelude.{ℕ, List, [], length, Option, Some, None, Result, Ok, Err}
use Rattle.hp_scripts.specs.Named.{NamedValue}
use Rattle.hp_scenario.specs.declared.fault.ScenarioFault.{ScenarioFault}
use Rattle.hp_scripts.specs.Unbegun.{unbegun_lines}
use Rattle.hp_scripts.specs.declared.unbegun.Unbegun.{Unbegun}

-- per processor, the first script line that works on operation 0 although the processor has begun none
abbrev pub unbegun_in : (setup : ℕ) → Result NamedValue ScenarioFault → List Unbegun
unbegun_in setup (Ok s) = unbegun_lines s.scenario.layout.cpus setup s.scenario.lines
unbegun_in setup (Err fault) = []

-- how many lines the scenario has; None if the bytes are not a scenario
abbrev pub count_of : Result NamedValue ScenarioFault → Option ℕ
count_of (Ok s) = Some (length s.scenario.lines)
count_of (Err fault) = None
