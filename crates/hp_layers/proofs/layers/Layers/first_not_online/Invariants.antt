use Rattle.std.proofs.Common.{◌≡◌, drop}
use Rattle.std.specs.Prelude.{◌&&◌, not}
use Rattle.std.specs.List.{find}
use Rattle.std.specs.Option.{option_map}
use Rattle.hp_units.specs.Memory.{row_of}
use Rattle.hp_units.specs.Rows.{is_off, is_online}
use Rattle.hp_layers.proofs.layers.Layers.first_not_online.Given as goal

abbrev pub invariant-loop-item : goal.invariant-loop-item
invariant-loop-item l =
    option_map (λ item. item.block)
    (find (λ item. is_off item.wish && not (is_online (row_of l.fn.self.blocks.blocks item.block))) l.plan)
    ≡ option_map (λ item. item.block) (find (λ item. is_off item.wish
    && not (is_online (row_of l.fn.self.blocks.blocks item.block))) (drop l.item-index l.plan))
