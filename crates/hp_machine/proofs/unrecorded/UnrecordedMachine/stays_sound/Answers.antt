-- What a machine keeps is what a user relies on, whether its records are kept or not.
use Rattle.hp_machine.proofs.Machines.{sound}
use Rattle.hp_machine.proofs.unrecorded.UnrecordedMachine.stays_sound.Goals as goal

pub returns : goal.returns
returns c = rw (← c.self.view_is) (sound c.self.inside.journal c.self.invariant)
