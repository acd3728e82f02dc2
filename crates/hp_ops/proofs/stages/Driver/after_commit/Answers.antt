use Rattle.std.proofs.Common.{◌∙◌, ap}
use Rattle.hp_ops.specs.Names.{Refused}
use Rattle.hp_ops.proofs.stages.Driver.after_commit.Goals as goal

pub returns-in-NotFree-clause-next : goal.returns-in-NotFree-clause-next
returns-in-NotFree-clause-next c = rw (c.in-Refused.is ∙ ap Refused c.in-NotFree.is) c.round.ensures.next
