-- In a well placed state the free blocks lie apart, and blocks in use may come back.
use Rattle.std.proofs.Common.{ℕ, arith}
use Rattle.hp_units.specs.LayoutParts.{LayoutParts, IsLayout}
use Rattle.hp_units.specs.Memory.{Memory}
use Rattle.hp_units.specs.Placement.{IsWellPlaced}
use Rattle.hp_units.proofs.Placed.{IsInUse, free-within}
use Rattle.hp_buddy.specs.Buddy.{AreApart, MayBeGiven}

-- no frame is in two free blocks
pub placed-apart : (l : LayoutParts) (s : Memory) → IsLayout l → IsWellPlaced l s → AreApart l s.free.areas
placed-apart l s layout h = record {
  areas =
      record {
        lists = h.in_order.shape.lists;
        kinds = h.in_order.shape.kinds;
        free = λ class order first on. free-within l s class order first layout h on;
      };
  aligned = λ class order first on. (h.in_order.blocks class order first on).aligned;
  once = λ f. omega (arith, h.once f);
}

-- a block in use is free nowhere
pub in_use-given : (l : LayoutParts) (s : Memory) (order first : ℕ) → IsInUse l s order first
    → MayBeGiven l s.free.areas order first
in_use-given l s order first block = record {
  in_order = block.in_order;
  aligned = block.aligned;
  within = block.within;
  unfree = λ f low high. omega (arith, block.nowhere f low high);
}
