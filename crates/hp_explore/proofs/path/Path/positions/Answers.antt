-- The cursors are where the scripts are.
use Rattle.hp_explore.proofs.path.Path.positions.Goals as goal

pub returns : goal.returns
returns c = rw (← c.self.view_is) c.self.invariant.cursors_at
