-- In areas with nothing free, the first pageblock may be given.
use Rattle.std.proofs.Common.{◌+◌, ◌*◌, ◌^◌, ◌≤◌, arith}
use Rattle.std.proofs.Math.Nat.{mul-le-mul_right}
use Rattle.hp_units.specs.LayoutParts.{LayoutParts}
use Rattle.hp_units.specs.Arithmetic.{pageblock_size}
use Rattle.hp_units.specs.Boot.{empty_areas}
use Rattle.hp_buddy.specs.Buddy.{MayBeGiven}
use Rattle.hp_buddy.proofs.Standing.{none-places}

-- the first pageblock
pub first_block : (l : LayoutParts) → 1 ≤ l.blocks → 1 ≤ l.pageblocks
    → MayBeGiven l (empty_areas l) l.order (0 * pageblock_size l)
first_block l blocks pageblocks =
    let one = mul-le-mul_right {m = 1} {n = l.pageblocks} (2 ^ l.order) pageblocks in
    let all = mul-le-mul_right {m = 1} {n = l.blocks} (l.pageblocks * 2 ^ l.order) blocks in
    record {
      in_order = omega arith;
      aligned = grind arith;
      within = omega (arith, one, all);
      unfree = λ f low high. none-places f 0 (5 * (l.order + 1));
    }
