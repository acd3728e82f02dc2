use Rattle.std.proofs.Common.{◌∙◌, ap, arith}
use Rattle.hp_ops.specs.Names.{Refused}
use Rattle.hp_ops.proofs.stages.Driver.after_migrate.Goals as goal

pub returns-in-Moved-clause-next : goal.returns-in-Moved-clause-next
returns-in-Moved-clause-next c = rw c.in-Moved.is (c.turn.ensures.next 0 0 (omega arith))

pub returns-in-NoFrame-clause-next : goal.returns-in-NoFrame-clause-next
returns-in-NoFrame-clause-next c = rw (c.in-Refused.is ∙ ap Refused c.in-NoFrame.is) c.round.ensures.next
