use Rattle.hp_machine.proofs.unrecorded.UnrecordedMachineCallMachine.cpus.Goals as goal

pub returns : goal.returns
returns c = rw c.layout.ensures at c.cpus.ensures.is
