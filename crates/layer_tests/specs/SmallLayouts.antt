-- The layout of the tests, with all its parts.
use Rattle.std.specs.Prelude.{[], ◌∷◌}
use Rattle.hp_units.specs.LayoutParts.{LayoutParts}
use Rattle.hp_units.specs.declared.rows.Boot.TheVariants.{Offline}

-- two memory blocks of two frames each, two words per frame, and one owner with two pages
abbrev pub two_blocks : LayoutParts
two_blocks = record {
  order = 1;
  pageblocks = 1;
  blocks = 2;
  cpus = 1;
  batch = 1;
  high = 1;
  owners = 1;
  pages = 2;
  words = 2;
  history = 1;
  boot = Offline ∷ Offline ∷ [];
}
