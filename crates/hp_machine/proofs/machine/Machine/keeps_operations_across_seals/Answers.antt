-- The laws of operations, over the records of all volumes and the machine's.
use Rattle.hp_machine.proofs.Volumes.{operations_after}
use Rattle.hp_machine.proofs.machine.Machine.keeps_operations_across_seals.Goals as goal

pub returns : goal.returns
returns c =
    rw (← c.self.view_is)
    (λ volumes from. operations_after volumes c.self.inside.course c.self.invariant from)
