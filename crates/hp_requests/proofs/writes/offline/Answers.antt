use Rattle.std.proofs.Common.{◌∙◌, ap}
use Rattle.hp_requests.specs.declared.writes.Request.TheVariants.{Plan}
use Rattle.hp_requests.proofs.writes.offline.Goals as goal

pub returns : goal.returns
returns c = ap Plan (c.in_ok-plan.ensures ∙ c.in_ok-items.ensures.items)
