-- Without a sealed record the base is the state at boot: part of what every machine keeps.
use Rattle.hp_machine.proofs.machine.Machine.begins_at_boot.Goals as goal

pub returns : goal.returns
returns c = rw (← c.self.view_is) (c.self.invariant.boots)
