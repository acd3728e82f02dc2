use Rattle.std.proofs.Common.{◌≡◌}
use Rattle.hp_units.specs.Memory.{offline_row}
use Rattle.hp_memory.specs.Tables.{AreCopied}
use Rattle.hp_memory.proofs.loads.rows.load_rows.Given as goal

abbrev pub invariant-loop-number : goal.invariant-loop-number
invariant-loop-number l = record {
  rows : AreCopied offline_row offline_row l.number l.image.memory.blocks.rows l.blocks.blocks.rows;
  auto : l.blocks.blocks.auto ≡ l.initial.blocks.blocks.auto;
  layout : l.blocks.layout ≡ l.initial.blocks.layout;
}
