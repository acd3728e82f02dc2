-- The layout of worked states and records, and plans for it.
use Rattle.std.proofs.Common.{ℕ, List, [], ◌∷◌}
use Rattle.hp_units.specs.declared.plans.Item.{Item}
use Rattle.hp_units.specs.declared.rows.Boot.TheVariants.{Offline as OfflineBoot, Normal as NormalBoot, Movable as MovableBoot}
use Rattle.hp_units.specs.declared.rows.Wish.TheVariants.{Off as OffWish}
use Rattle.hp_units.specs.LayoutParts.{LayoutParts}

-- four blocks of one pageblock of four frames, in zones Normal, Normal and Movable and one offline,
-- and two processors
abbrev pub small : LayoutParts
small =
    record {
      order = 2;
      pageblocks = 1;
      blocks = 4;
      cpus = 2;
      batch = 2;
      high = 2;
      owners = 2;
      pages = 8;
      words = 2;
      history = 1000;
      boot = (NormalBoot ∷ NormalBoot ∷ MovableBoot ∷ OfflineBoot ∷ []);
    }

-- a plan that wishes a block off
abbrev pub off : ℕ → List Item
off block = record { block = block; wish = OffWish } ∷ []
