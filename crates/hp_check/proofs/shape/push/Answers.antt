use Rattle.std.proofs.Common.{Some}
use Rattle.hp_scenario.specs.declared.fault.ScenarioFault.TheVariants.{BadShape}
use Rattle.hp_check.specs.Adds.{IsShape}
use Rattle.hp_check.specs.declared.finding.Finding.TheVariants as finding
use Rattle.hp_check.proofs.Added.{one_added}
use Rattle.hp_check.proofs.shape.push.Goals as goal

pub returns : goal.returns
returns c =
    one_added IsShape (Some BadShape) (finding.Shape c.args.shape) _ _ c.in_ok-push.ensures.items tt tt
