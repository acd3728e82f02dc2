use Rattle.std.proofs.Common.{◌≡◌, [], None, replicate}
use Rattle.hp_memory.specs.Tables.{AreCopied}
use Rattle.hp_memory.proofs.loads.pages.load_table.Given as goal

abbrev pub invariant-loop-number : goal.invariant-loop-number
invariant-loop-number l = record {
  table : AreCopied [] (replicate l.image.layout.pages None) l.number l.image.memory.pages.table
      l.pages.pages.table;
  buffers : l.pages.pages.buffers ≡ l.initial.pages.pages.buffers;
  layout : l.pages.layout ≡ l.initial.pages.layout;
}
