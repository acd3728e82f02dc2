use Rattle.std.proofs.Common.{◌≡◌, [], None, replicate}
use Rattle.hp_pages.specs.Pages.{pages_of}
use Rattle.hp_memory.specs.Tables.{AreCopied}
use Rattle.hp_memory.proofs.pictures.pages.put_pages.Given as goal

abbrev pub invariant-loop-number : goal.invariant-loop-number
invariant-loop-number l = record {
  table : AreCopied [] (replicate l.pages.layout.pages None) l.number l.pages.pages.table
      l.image.memory.pages.table;
  contents : AreCopied [] (replicate l.pages.layout.pages None) l.number
      (pages_of l.pages.layout l.pages.pages).contents l.image.memory.pages.contents;
  same : l.image
      ≡ record l.initial.image { memory = record l.initial.image.memory { pages = l.image.memory.pages } };
}
