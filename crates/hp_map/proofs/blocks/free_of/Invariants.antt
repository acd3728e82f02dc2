use Rattle.std.proofs.Common.{◌≡◌}
use Rattle.std.specs.List.{flat_map, range_with_len}
use Rattle.hp_map.specs.Blocks.{free_frame}
use Rattle.hp_map.proofs.blocks.free_of.Given as goal

abbrev pub invariant-loop-number : goal.invariant-loop-number
invariant-loop-number l =
    l.free.items ≡ flat_map (free_frame l.machine.layout l.machine.state.free.areas l.fn.block)
    (range_with_len 0 l.number)
