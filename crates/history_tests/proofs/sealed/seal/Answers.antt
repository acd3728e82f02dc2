-- The volume of a seal stands after those before it, and the machine goes on from all of them.
use Rattle.history_tests.proofs.SealedMachines.{sealed_once_more}
use Rattle.history_tests.proofs.sealed.seal.Goals as goal

pub returns-clause-volumes : goal.returns-clause-volumes
returns-clause-volumes c =
    let old = c.args.machine.now in
    sealed_once_more old c.seal-volume.new.self c.seal-volume.result
    (λ volumes from. c.machines_go_on_from_their_volumes.ensures.seal volumes old c.history.ensures.kept from)
    c.seal-volume.ensures.volume c.seal-volume.ensures.goes_on

pub returns-clause-operations : goal.returns-clause-operations
returns-clause-operations c = c.keeps_operations_across_seals.ensures
