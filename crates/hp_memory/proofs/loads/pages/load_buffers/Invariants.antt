use Rattle.std.proofs.Common.{◌≡◌, None}
use Rattle.hp_tape.specs.Deltas.{page_frames_of}
use Rattle.hp_memory.specs.Tables.{AreCopied}
use Rattle.hp_memory.proofs.loads.pages.load_buffers.Given as goal

abbrev pub invariant-loop-number : goal.invariant-loop-number
invariant-loop-number l = record {
  buffers : AreCopied None None l.number (page_frames_of l.image.layout l.image.memory.pages).buffers
      l.pages.pages.buffers;
  table : l.pages.pages.table ≡ l.initial.pages.pages.table;
  layout : l.pages.layout ≡ l.initial.pages.layout;
}
