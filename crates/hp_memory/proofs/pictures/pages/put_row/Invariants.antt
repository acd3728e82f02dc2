use Rattle.std.proofs.Common.{◌≡◌, [], None, get_or, set}
use Rattle.hp_pages.specs.Pages.{words_row}
use Rattle.hp_memory.specs.Tables.{AreCopied}
use Rattle.hp_memory.proofs.pictures.pages.put_row.Given as goal

abbrev pub invariant-loop-number : goal.invariant-loop-number
invariant-loop-number l = record {
  row : AreCopied None None l.number (get_or l.pages.pages.table l.fn.owner [])
      (get_or l.image.memory.pages.table l.fn.owner []);
  words : AreCopied None None l.number (words_row l.pages.layout l.pages.pages l.fn.owner)
      (get_or l.image.memory.pages.contents l.fn.owner []);
  table : l.image.memory.pages.table
      ≡ set l.initial.image.memory.pages.table l.fn.owner (get_or l.image.memory.pages.table l.fn.owner []);
  contents : l.image.memory.pages.contents ≡ set l.initial.image.memory.pages.contents l.fn.owner
      (get_or l.image.memory.pages.contents l.fn.owner []);
  same : l.image
      ≡ record l.initial.image { memory = record l.initial.image.memory { pages = l.image.memory.pages } };
}
