use Rattle.std.proofs.Common.{◌≡◌, [], None, get_or, set}
use Rattle.hp_memory.specs.Tables.{AreCopied}
use Rattle.hp_memory.proofs.loads.pages.load_row.Given as goal

abbrev pub invariant-loop-number : goal.invariant-loop-number
invariant-loop-number l = record {
  row : AreCopied None None l.number (get_or l.image.memory.pages.table l.fn.owner [])
      (get_or l.pages.pages.table l.fn.owner []);
  table : l.pages.pages.table
      ≡ set l.initial.pages.pages.table l.fn.owner (get_or l.pages.pages.table l.fn.owner []);
  buffers : l.pages.pages.buffers ≡ l.initial.pages.pages.buffers;
  layout : l.pages.layout ≡ l.initial.pages.layout;
}
