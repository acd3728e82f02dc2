-- A seal keeps what every machine keeps.
use Rattle.hp_machine.proofs.Machines.{sealed_machine}
use Rattle.hp_machine.proofs.unrecorded.UnrecordedMachine.seal.Goals as goal

pub invariant_of-self : goal.invariant_of-self
invariant_of-self c =
    sealed_machine c.self.inside.journal c.seal.new.self c.self.invariant c.seal.ensures.goes_on

pub returns-clause-count : goal.returns-clause-count
returns-clause-count c = rw c.self.view_is at c.seal.ensures.count

pub returns-clause-goes_on : goal.returns-clause-goes_on
returns-clause-goes_on c = rw c.self.view_is at c.seal.ensures.goes_on
