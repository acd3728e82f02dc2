use Rattle.std.proofs.Common.{◌≡◌, map, drop}
use Rattle.hp_units.specs.Choices.{first_some}
use Rattle.hp_units.specs.Refusals.{kernel_frame_in}
use Rattle.hp_layers.specs.Layers.{state_of}
use Rattle.hp_layers.proofs.layers.Layers.first_unmovable.Given as goal

abbrev pub invariant-loop-item : goal.invariant-loop-item
invariant-loop-item l =
    first_some (map (kernel_frame_in l.fn.self.layout (state_of l.fn.self)) l.plan)
    ≡ first_some (map (kernel_frame_in l.fn.self.layout (state_of l.fn.self)) (drop l.item-index l.plan))
