use Rattle.std.proofs.Common.{◌∙◌, ap}
use Rattle.hp_units.specs.LayoutParts.{LayoutParts}
use Rattle.hp_units.specs.Memory.{Memory}
use Rattle.hp_layers.specs.Layers.{state_of}
use Rattle.hp_memory.proofs.Values.{value_of}
use Rattle.hp_memory.proofs.memory.Memory.from_image.Goals as goal

pub layers_of-requires : goal.layers_of-requires
layers_of-requires c = c.requires

pub returns : goal.returns
returns c =
    ap (λ (l : LayoutParts). value_of l (state_of c.in_ok-layers.layers)) c.in_ok-layers.ensures.layout
    ∙ ap (λ (s : Memory). value_of c.args.image.now.layout s) c.in_ok-layers.ensures.state
