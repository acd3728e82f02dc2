-- A seal keeps what every machine keeps, whether memory was there for it or not.
use Rattle.hp_machine.proofs.Machines.{seal_kept}
use Rattle.hp_machine.proofs.machine.Machine.seal.Goals as goal

pub invariant_of-self : goal.invariant_of-self
invariant_of-self c =
    seal_kept c.self.inside.course c.seal.new.self c.seal.result c.self.invariant c.seal.ensures.err
    c.seal.ensures.goes_on

pub returns-clause-err : goal.returns-clause-err
returns-clause-err c = rw c.self.view_is at c.seal.ensures.err

pub returns-clause-volume : goal.returns-clause-volume
returns-clause-volume c = rw c.self.view_is at c.seal.ensures.volume

pub returns-clause-goes_on : goal.returns-clause-goes_on
returns-clause-goes_on c = rw c.self.view_is at c.seal.ensures.goes_on
