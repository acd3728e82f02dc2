use Rattle.std.proofs.Common.{◌≡◌}
use Rattle.std.specs.List.{flat_map, range_with_len}
use Rattle.hp_map.specs.Blocks.{kernel_frame}
use Rattle.hp_map.proofs.blocks.kernel_of.Given as goal

abbrev pub invariant-loop-number : goal.invariant-loop-number
invariant-loop-number l =
    l.kernel.items ≡ flat_map (kernel_frame l.machine.layout l.machine.state l.fn.block)
    (range_with_len 0 l.number)
