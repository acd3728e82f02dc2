-- The value that a scenario with names has in contracts.
use Rattle.hp_scenario.specs.Seen.{scenario_seen}
use Rattle.hp_scripts.specs.Named.{NamedValue}
use Rattle.hp_scripts.specs.declared.named.NamedScenario.{NamedScenario}

abbrev pub named_seen : NamedScenario → NamedValue
named_seen n = record { scenario = scenario_seen n.scenario; sources = n.sources; bound = n.bound }
