-- At its start a machine keeps what every machine keeps.
use Rattle.hp_machine.proofs.Machines.{booted_machine}
use Rattle.hp_machine.proofs.unrecorded.UnrecordedMachine.boot.Goals as goal

pub invariant_of-result : goal.invariant_of-result
invariant_of-result c =
    booted_machine c.args.layout.now c.in_ok-journal.journal c.in_ok-journal.ensures.start
    c.in_ok-journal.ensures.limits
