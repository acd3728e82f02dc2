use Rattle.std.proofs.Common.{◌≡◌, ◌+◌, ◌-◌}
use Rattle.std.specs.List.{list_any, range_with_len}
use Rattle.hp_units.specs.Numbers.{ancestor}
use Rattle.hp_units.specs.Refusals.{is_free_start, is_in_free_block}
use Rattle.hp_layers.proofs.frames.Frames.free_order.Given as goal

abbrev pub invariant-loop-number : goal.invariant-loop-number
invariant-loop-number l =
    is_in_free_block l.layout l.self.buddy.areas l.frame
    ≡ list_any (λ order. is_free_start l.self.buddy.areas order (ancestor l.frame order))
    (range_with_len l.number (l.layout.order + 1 - l.number))
