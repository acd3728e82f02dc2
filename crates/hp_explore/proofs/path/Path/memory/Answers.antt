-- The state is that after the records.
use Rattle.hp_explore.proofs.path.Path.memory.Goals as goal

pub returns : goal.returns
returns c = rw (← c.self.view_is, c.memory.ensures, c.self.invariant.at.layout, c.self.invariant.at.state)
