use Rattle.std.proofs.Common.{◌≡◌}
use Rattle.hp_units.specs.Memory.{offline_row}
use Rattle.hp_memory.specs.Tables.{AreCopied}
use Rattle.hp_memory.proofs.pictures.rows.put_rows.Given as goal

abbrev pub invariant-loop-number : goal.invariant-loop-number
invariant-loop-number l = record {
  rows : AreCopied offline_row offline_row l.number l.blocks.blocks.rows l.image.memory.blocks.rows;
  same : l.image ≡ record l.initial.image {
    memory = record l.initial.image.memory
        { blocks = record l.initial.image.memory.blocks { rows = l.image.memory.blocks.rows } };
  };
}
