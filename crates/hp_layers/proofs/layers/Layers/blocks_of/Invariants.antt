use Rattle.std.proofs.Common.{◌≡◌, ◌≤◌, filter, length}
use Rattle.std.specs.List.{range_with_len}
use Rattle.hp_units.specs.Memory.{row_of}
use Rattle.hp_units.specs.Rows.{is_claimed_by}
use Rattle.hp_layers.proofs.layers.Layers.blocks_of.Given as goal

abbrev pub invariant-loop-number : goal.invariant-loop-number
invariant-loop-number l = record {
  among : l.blocks.items
      ≡ filter (λ block. is_claimed_by l.op (row_of l.self.blocks.blocks block)) (range_with_len 0 l.number);
  few : length l.blocks.items ≤ l.number;
}
