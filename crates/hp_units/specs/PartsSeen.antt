-- The value in contracts of the sizes passed to Layout::new, and when each fault occurs.
use Rattle.std.specs.Prelude.{◌≡◌, Some, None}
use Rattle.hp_units.specs.declared.layouts.Parts.{Parts}
use Rattle.hp_units.specs.declared.layouts.LayoutFault.{LayoutFault}
use Rattle.hp_units.specs.declared.layouts.LayoutFault.TheVariants.{OutOfMemory}
use Rattle.hp_units.specs.LayoutParts.{LayoutParts, layout_fault}

-- the sizes, with the list that their reference points to
abbrev pub parts_seen : Parts → LayoutParts
parts_seen p = record {
  order = p.order;
  pageblocks = p.pageblocks;
  blocks = p.blocks;
  cpus = p.cpus;
  batch = p.batch;
  high = p.high;
  owners = p.owners;
  pages = p.pages;
  words = p.words;
  history = p.history;
  boot = p.boot.now;
}

-- the fault is the first that the sizes have; OutOfMemory occurs only if they have none
abbrev pub IsLayoutFault : LayoutParts → LayoutFault → Type 0
IsLayoutFault l OutOfMemory = layout_fault l ≡ None
IsLayoutFault l fault = layout_fault l ≡ Some fault
