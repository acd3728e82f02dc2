use Rattle.std.proofs.Common.{◌≡◌, ◌+◌, ◌-◌}
use Rattle.std.specs.List.{find, range_with_len}
use Rattle.hp_units.specs.Arithmetic.{frames_of_block}
use Rattle.hp_layers.specs.Commits.{is_in_use}
use Rattle.hp_layers.specs.Layers.{state_of}
use Rattle.hp_layers.proofs.layers.Layers.lowest_in_use.Given as goal

abbrev pub invariant-loop-number : goal.invariant-loop-number
invariant-loop-number l =
    find (is_in_use l.fn.self.layout (state_of l.fn.self)) (frames_of_block l.fn.self.layout l.fn.block)
    ≡ find (is_in_use l.fn.self.layout (state_of l.fn.self))
    (range_with_len (l.first + l.number) (l.size - l.number))

abbrev pub decreases-loop-number : goal.decreases-loop-number
decreases-loop-number l = l.size - l.number
