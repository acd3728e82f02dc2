use Rattle.hp_check.specs.Adds.{IsShape}
use Rattle.hp_check.proofs.Added.{none_added}
use Rattle.hp_check.proofs.shape.push_unless.Goals as goal

pub returns-then-holds : goal.returns-then-holds
returns-then-holds c = rw c.if-holds.true (none_added IsShape _)

pub returns-else-holds : goal.returns-else-holds
returns-else-holds c = rw c.if-holds.false c.push.ensures
