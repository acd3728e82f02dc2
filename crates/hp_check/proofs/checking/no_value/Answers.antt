use Rattle.std.proofs.Common.{Some}
use Rattle.hp_scenario.specs.declared.fault.ScenarioFault.TheVariants.{NotJson}
use Rattle.hp_check.specs.Adds.{IsNotJson}
use Rattle.hp_check.proofs.Added.{from_none, one_added}
use Rattle.hp_check.proofs.checking.no_value.Goals as goal

pub returns : goal.returns
returns c = (
  from_none c.new-found.ensures.items
      (one_added IsNotJson (Some NotJson) _ _ _ c.in_ok-push.ensures.items tt tt),
  λ memory. let no = c.if-is_memory.ensures.1 memory in cc,
)
