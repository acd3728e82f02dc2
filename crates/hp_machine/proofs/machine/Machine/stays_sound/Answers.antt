-- Each frame is in one place, and the pages hold what was written: laws of all histories.
use Rattle.hp_machine.proofs.Machines.{sound}
use Rattle.hp_machine.proofs.machine.Machine.stays_sound.Goals as goal

pub returns : goal.returns
returns c = rw (← c.self.view_is) (sound c.self.inside.course c.self.invariant)
