use Rattle.hp_scenario.specs.Scenario.{scenario_in}
use Rattle.hp_scenario.proofs.scenario.Scenario.read_any.Goals as goal

pub returns : goal.returns
unfolding scenario_in
returns c = rw c.in_ok-value.ensures c.scenario_from.ensures
