-- A block that comes back joins with its buddies, and the free blocks lie apart.
use Rattle.std.proofs.Common.{◌≡◌, ℕ, zero, suc, ◌+◌, ◌-◌, ◌*◌, ◌/◌, ◌^◌, ◌<◌, ◌≤◌, ◌∙◌, ap, arith, inl, inr}
use Rattle.std.proofs.lemmas.Bool.{cases_lt}
use Rattle.std.proofs.lemmas.Nat.{pow_pos, pow-add, div_below}
use Rattle.std.proofs.Math.Nat.{mul-le-mul_right, lt-div-mul-add}
use Rattle.hp_units.specs.declared.rows.Class.{Class}
use Rattle.hp_units.specs.declared.rows.Zone.{Zone}
use Rattle.hp_units.specs.LayoutParts.{LayoutParts}
use Rattle.hp_units.specs.Numbers.{ancestor}
use Rattle.hp_units.specs.Arithmetic.{buddy, frame_count}
use Rattle.hp_units.specs.Memory.{FreeAreas, free_list}
use Rattle.hp_units.specs.FreeAreas.{without, without_free, without_buddies, join_order, give_block, class_of}
use Rattle.hp_units.specs.Placement.{free_places, covered}
use Rattle.hp_units.proofs.Places.{with_front-places, covered-in, covered-out}
use Rattle.hp_units.proofs.Joins.{without_buddies-places, HasBuddies, JoinsTo, join_order-joins}
use Rattle.hp_units.proofs.Geometry.{ancestor_above, aligned_ancestor, multiple_aligned, buddy_above}
use Rattle.hp_units.proofs.ListParts.{without-part}
use Rattle.hp_buddy.specs.Buddy.{AreApart, MayBeGiven, HasBlockMore}
use Rattle.hp_buddy.proofs.Apart.{has_order, part-apart, front-apart}

-- a free block leaves
pub without_free-apart : (l : LayoutParts) (a : FreeAreas) (class : Class) (order block : ℕ) → order ≤ l.order
    → AreApart l a → AreApart l (without_free a class order block)
without_free-apart l a class order block low h =
    part-apart l a class order (without block (free_list a class order)) low
    (without-part order block (free_list a class order)) h

-- buddies leave
pub without_buddies-apart : (l : LayoutParts) (a : FreeAreas) (class : Class) (first order count : ℕ)
    → order + count ≤ l.order + 1
    → AreApart l a → AreApart l (without_buddies a class first order count)
without_buddies-apart l a class first order zero low h = h
without_buddies-apart l a class first order (suc count) low h =
    without_free-apart l (without_buddies a class first order count) class (order + count)
    (buddy (ancestor first (order + count)) (order + count)) (omega arith)
    (without_buddies-apart l a class first order count (omega arith) h)

-- ---- the buddies lie within the frames

-- the block of an order that a frame lies in is within the frames
pub block_within : (l : LayoutParts) (frame order : ℕ) → frame < frame_count l → order ≤ l.order
    → ancestor frame order + 2 ^ order ≤ frame_count l
block_within l frame order low high =
    let sum : l.order ≡ order + (l.order - order) = omega arith in
    let power : 2 ^ l.order ≡ 2 ^ order * 2 ^ (l.order - order) =
    ap (λ (n : ℕ). 2 ^ n) sum ∙ pow-add 2 order (l.order - order) in
    let count : frame_count l ≡ l.blocks * (l.pageblocks * 2 ^ (l.order - order)) * 2 ^ order =
    rw power (grind arith) in
    let below : frame / 2 ^ order < l.blocks * (l.pageblocks * 2 ^ (l.order - order)) =
    div_below frame (2 ^ order) (l.blocks * (l.pageblocks * 2 ^ (l.order - order))) (pow_pos order)
    (omega arith) in
    omega (arith, mul-le-mul_right (2 ^ order) below)

-- the frames of a pageblock are frames
pub within : (l : LayoutParts) (frame other : ℕ) → frame < frame_count l
    → other / 2 ^ l.order ≡ frame / 2 ^ l.order → other < frame_count l
within l frame other low same =
    let top : ancestor other l.order ≡ ancestor frame l.order = ap (λ (n : ℕ). n * 2 ^ l.order) same in
    omega
    (arith, lt-div-mul-add {a = other} (pow_pos l.order), block_within l frame l.order low (omega arith))

-- a frame's buddy is a frame
pub buddy_within : (l : LayoutParts) (frame order : ℕ) → frame < frame_count l → order < l.order
    → buddy (ancestor frame order) order < frame_count l
buddy_within l frame order low below =
    within l frame (buddy (ancestor frame order) order) low
    (buddy_above (ancestor frame order) order l.order (multiple_aligned (frame / 2 ^ order) order)
    (omega arith) ∙ ancestor_above frame order l.order (omega arith))

-- ---- the block joined

-- without the buddies of a block, the free blocks lie apart, and the block that it joins to is in
-- none of them
pub record IsJoined (l : LayoutParts) (a : FreeAreas) (class : Class) (first order joined : ℕ) : Type 0 where
  pub apart : AreApart l (without_buddies a class first order (joined - order))
  pub block : MayBeGiven l (without_buddies a class first order (joined - order)) joined
      (ancestor first joined)
  pub places : (frame : ℕ)
      → free_places (without_buddies a class first order (joined - order)) frame
      + covered frame joined (ancestor first joined) ≡ free_places a frame + covered frame order first

-- no frame is in a free block and in the block given
room : (l : LayoutParts) (a : FreeAreas) (order first frame : ℕ) → MayBeGiven l a order first → AreApart l a
    → free_places a frame + covered frame order first ≤ 1
room l a order first frame block h = elim (cases_lt frame first) [
  | inl below ↦ omega (arith, h.once frame, covered-out frame order first (inl below))
  | inr low ↦ elim (cases_lt frame (first + 2 ^ order)) [
    | inl high ↦ omega (arith, block.unfree frame low high, covered-in frame order first low high)
    | inr above ↦ omega (arith, h.once frame, covered-out frame order first (inr above))
  ]
]

-- a block that joins as far as its buddies are free
pub joins_up : (l : LayoutParts) (a : FreeAreas) (class : Class) (first order joined : ℕ)
    → MayBeGiven l a order first → AreApart l a
    → JoinsTo a class first order (l.order - order) joined → IsJoined l a class first order joined
joins_up l a class first order joined block h joins =
    let some : 0 < 2 ^ order = pow_pos order in
    let top : order + (joined - order) ≡ joined = omega (arith, joins.low) in
    let high : joined ≤ l.order = omega (arith, joins.high, block.in_order) in
    let buddies : HasBuddies a class first order (joined - order) =
    λ i below above. joins.buddies i below (omega (arith, joins.low)) in
    let rest : FreeAreas = without_buddies a class first order (joined - order) in
    let places : (frame : ℕ)
    → free_places rest frame + covered frame joined (ancestor first joined)
    ≡ free_places a frame + covered frame order first =
    λ frame. rw (top, aligned_ancestor first order block.aligned) at (without_buddies-places a class first
    order (joined - order) frame (omega (arith, h.areas.lists)) h.once buddies) in
    record {
      apart = without_buddies-apart l a class first order (joined - order) (omega arith) h;
      block = record {
        in_order = high;
        aligned = multiple_aligned (first / 2 ^ joined) joined;
        within = block_within l first joined (omega (arith, block.within)) high;
        unfree =
            λ frame low above. omega (
              arith,
              places frame,
              covered-in frame joined (ancestor first joined) low above,
              room l a order first frame block h,
            );
      };
      places = places;
    }

-- ---- a block comes back

-- the free blocks lie apart, and the frames of the block are in one free block more
pub record Gives (l : LayoutParts) (a : FreeAreas) (order first : ℕ) (after : FreeAreas) : Type 0 where
  pub apart : AreApart l after
  pub places : HasBlockMore after a order first

-- giving keeps the free blocks apart
pub give_block-gives : (l : LayoutParts) (a : FreeAreas) (zone : Zone) (first order : ℕ)
    → MayBeGiven l a order first → AreApart l a
    → Gives l a order first (give_block l a zone first order)
unfolding give_block
give_block-gives l a zone first order block h =
    let class : Class = class_of l a zone first in
    let last : ℕ = join_order a class first order (l.order - order) in
    let join : IsJoined l a class first order last =
    joins_up l a class first order last block h (join_order-joins a class first order (l.order - order)) in
    let rest : FreeAreas = without_buddies a class first order (last - order) in
    record {
      apart = front-apart l rest class last (ancestor first last) join.block join.apart;
      places =
          λ frame. omega (
            arith,
            join.places frame,
            with_front-places rest class last (ancestor first last)
                frame (has_order l rest last join.apart join.block.in_order),
          );
    }
