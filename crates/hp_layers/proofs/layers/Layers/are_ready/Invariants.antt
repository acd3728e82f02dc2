use Rattle.std.proofs.Common.{◌≡◌, drop}
use Rattle.std.specs.List.{list_all}
use Rattle.hp_layers.specs.Commits.{is_ready}
use Rattle.hp_layers.specs.Layers.{state_of}
use Rattle.hp_layers.proofs.layers.Layers.are_ready.Given as goal

abbrev pub invariant-loop-block : goal.invariant-loop-block
invariant-loop-block l =
    list_all (is_ready l.fn.self.layout (state_of l.fn.self)) l.blocks
    ≡ list_all (is_ready l.fn.self.layout (state_of l.fn.self)) (drop l.block-index l.blocks)
