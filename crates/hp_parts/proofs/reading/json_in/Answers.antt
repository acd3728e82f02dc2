use Rattle.std.proofs.Common.{◌≡◌, true, false}
use Rattle.hp_scenario.proofs.Json.{json_read, json_refused}
use Rattle.hp_scenario.specs.declared.fault.ScenarioFault.TheVariants.{NotJson}
use Rattle.hp_parts.proofs.Values.{none_of, some_of}
use Rattle.hp_parts.proofs.reading.json_in.Goals as goal

pub returns-in-Ok : goal.returns-in-Ok
returns-in-Ok c = some_of NotJson _ _ (json_read _ _ c.in-Ok.ensures.ok.0 c.in-Ok.ensures.ok.1)

pub returns-else-is_memory : goal.returns-else-is_memory
returns-else-is_memory c =
    none_of NotJson _ (json_refused _
    (c.in-Err.ensures.err (λ e. let h : false ≡ true = c.if-is_memory.ensures.1 e in absurd cc)))
