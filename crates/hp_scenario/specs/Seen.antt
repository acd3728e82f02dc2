-- The values that scenarios and lines have in contracts.
use Rattle.hp_scenario.specs.Asked as asks
use Rattle.hp_scenario.specs.Lines as said
use Rattle.hp_scenario.specs.Scenario.{ScenarioValue}
use Rattle.hp_scenario.specs.declared.asked.Asked.{Asked}
use Rattle.hp_scenario.specs.declared.asked.Asked.TheVariants as asked
use Rattle.hp_scenario.specs.declared.requests.Request.{Request}
use Rattle.hp_scenario.specs.declared.requests.Request.TheVariants.{Plain, Named}
use Rattle.hp_scenario.specs.declared.requests.Said.{Said}
use Rattle.hp_scenario.specs.declared.scenario.Scenario as whole

abbrev pub request_seen : Request → said.Request
request_seen (Plain work) = said.plain work
request_seen (Named name access) = said.named name.now access

abbrev pub said_seen : Said → said.Said
said_seen s = record { cpu = s.cpu; request = request_seen s.request }

abbrev pub scenario_seen : whole.Scenario → ScenarioValue
scenario_seen s = record { layout = s.layout; names = s.names.keys; lines = s.lines }

abbrev pub asked_seen : Asked → asks.Meaning
asked_seen (asked.Event e) = asks.event e.now
asked_seen (asked.Plan plan turns) = asks.plan plan.now turns
asked_seen (asked.NotTaken fault) = asks.not_taken fault
asked_seen (asked.Cat path) = asks.cat path.now
asked_seen asked.Seal = asks.seal
