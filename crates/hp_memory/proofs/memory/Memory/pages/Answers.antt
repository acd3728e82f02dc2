use Rattle.hp_layers.proofs.PageEvents.{settled}
use Rattle.hp_memory.proofs.memory.Memory.pages.Goals as goal

pub returns-clause-settled : goal.returns-clause-settled
returns-clause-settled c = settled c.self.inside.layers c.self.invariant
