use Rattle.std.proofs.Common.{◌≡◌, drop}
use Rattle.std.specs.List.{find, flat_map}
use Rattle.hp_layers.specs.Commits.{is_in_use, leaving_frames}
use Rattle.hp_layers.specs.Layers.{state_of}
use Rattle.hp_layers.proofs.layers.Layers.frame_in_use.Given as goal

abbrev pub invariant-loop-block : goal.invariant-loop-block
invariant-loop-block l =
    find (is_in_use l.fn.self.layout (state_of l.fn.self))
    (flat_map (leaving_frames l.fn.self.layout (state_of l.fn.self)) l.blocks)
    ≡ find (is_in_use l.fn.self.layout (state_of l.fn.self))
    (flat_map (leaving_frames l.fn.self.layout (state_of l.fn.self)) (drop l.block-index l.blocks))
