-- The laws of operations, over the machine's history.
use Rattle.hp_machine.proofs.Machines.{operations}
use Rattle.hp_machine.proofs.machine.Machine.keeps_operations.Goals as goal

pub returns : goal.returns
returns c = rw (← c.self.view_is) (operations c.self.inside.course c.self.invariant)
