-- All parts are the same, and the blocks at boot are an equal list.
use Rattle.std.proofs.Common.{◌∙◌, List, ap}
use Rattle.hp_units.specs.LayoutParts.{LayoutParts}
use Rattle.hp_units.specs.declared.layouts.Layout.TheInside.{Inside}
use Rattle.hp_units.specs.declared.rows.Boot.{Boot}
use Rattle.hp_units.proofs.layouts.Layout.copy.Goals as goal

-- the parts with other blocks at boot
abbrev booting : Inside → List Boot → LayoutParts
booting l boot = record {
  order = l.order;
  pageblocks = l.pageblocks;
  blocks = l.blocks;
  cpus = l.cpus;
  batch = l.batch;
  high = l.high;
  owners = l.owners;
  pages = l.pages;
  words = l.words;
  history = l.history;
  boot = boot;
}

pub returns : goal.returns
returns c =
    ap (λ (boot : List Boot). booting c.self.inside boot)
    (c.in_ok-boot.ensures.items ∙ c.deref.ensures.value)
    ∙ c.self.view_is
