use Rattle.std.proofs.Common.{◌∙◌, ap}
use Rattle.hp_layers.specs.Layers.{state_of}
use Rattle.hp_layers.specs.declared.layers.Layers.{Layers}
use Rattle.hp_memory.proofs.Values.{value_of}
use Rattle.hp_memory.proofs.memory.Memory.copy.Goals as goal

pub returns : goal.returns
returns c = ap (λ (m : Layers). value_of m.layout (state_of m)) c.in_ok-layers.ensures ∙ c.self.view_is
