-- The pageblocks of a memory block are added one after another.
use Rattle.std.proofs.Common.{Result, Ok, Err, OnOk, OnErr, ◌≡◌, ℕ, ◌+◌, ◌*◌, ◌%◌, ◌^◌, ◌<◌, ◌≤◌, sym, subst, arith}
use Rattle.std.specs.List.{fold, range_with_len}
use Rattle.std.proofs.Math.Nat.{mul-le-mul_left}
use Rattle.hp_units.specs.LayoutParts.{LayoutParts, IsLayout}
use Rattle.hp_units.specs.Arithmetic.{frame_count, pageblock_count}
use Rattle.hp_units.specs.Memory.{FreeAreas, usable_class}
use Rattle.hp_units.specs.FreeAreas.{with_back}
use Rattle.hp_units.specs.Isolation.{add_pageblock}
use Rattle.hp_units.specs.InLayout.{AreFreeAreasOf}
use Rattle.hp_plain.specs.Names.{Zone, Movable}
use Rattle.hp_plain.proofs.FramesInLayout.{of_back}
use Rattle.hp_plain.proofs.Ranges.{fold-range_more}

-- a pageblock's frames are frames of the layout
pub pageblock_within : (l : LayoutParts) (pageblock : ℕ) → pageblock < pageblock_count l
    → pageblock * 2 ^ l.order + 2 ^ l.order ≤ frame_count l
pageblock_within l pageblock below =
    let more : pageblock + 1 ≤ l.blocks * l.pageblocks = omega arith in
    omega (arith, mul-le-mul_left (2 ^ l.order) more)

-- and few enough for numbers of 32 bits
pub pageblock_few : (l : LayoutParts) (pageblock : ℕ) → IsLayout l → pageblock < pageblock_count l
    → pageblock * 2 ^ l.order < 2 ^ 32
pageblock_few l pageblock layout below =
    let within : pageblock * 2 ^ l.order + 2 ^ l.order ≤ frame_count l = pageblock_within l pageblock below in
    let frames : l.blocks * (l.pageblocks * 2 ^ l.order) ≤ 2 ^ 20 = layout.frames in
    omega arith

-- a pageblock of a memory block
pub pageblock_of_block : (l : LayoutParts) (block number : ℕ) → block < l.blocks → number < l.pageblocks
    → block * l.pageblocks + number < pageblock_count l
pageblock_of_block l block number below low =
    let more : block + 1 ≤ l.blocks = omega arith in
    omega (arith, mul-le-mul_left l.pageblocks more)

-- a pageblock of a memory block goes to the back of its list
pub adds_pageblock : (l : LayoutParts) (zone : Zone) (old mid new : FreeAreas) (block number : ℕ) → IsLayout l
    → block < l.blocks → number < l.pageblocks
    → mid ≡ fold (add_pageblock l zone) old (range_with_len (block * l.pageblocks) number)
    → new ≡ with_back mid (usable_class zone Movable) l.order
    ((block * l.pageblocks + number) * 2 ^ l.order % 2 ^ 32)
    → new ≡ fold (add_pageblock l zone) old (range_with_len (block * l.pageblocks) (number + 1))
adds_pageblock l zone old mid new block number layout below low is added =
    let pageblock = block * l.pageblocks + number in
    let few : pageblock * 2 ^ l.order < 2 ^ 32 =
    pageblock_few l pageblock layout (pageblock_of_block l block number below low) in
    let whole : pageblock * 2 ^ l.order % 2 ^ 32 ≡ pageblock * 2 ^ l.order = omega arith in
    rw (added, whole, is, ← fold-range_more (add_pageblock l zone) old (block * l.pageblocks) number)

-- and the areas with it are within the layout
pub keeps_pageblock : (l : LayoutParts) (zone : Zone) (mid new : FreeAreas) (block number : ℕ) → IsLayout l
    → block < l.blocks → number < l.pageblocks → AreFreeAreasOf l mid
    → new ≡ with_back mid (usable_class zone Movable) l.order
    ((block * l.pageblocks + number) * 2 ^ l.order % 2 ^ 32)
    → AreFreeAreasOf l new
keeps_pageblock l zone mid new block number layout below low of added =
    let pageblock = block * l.pageblocks + number in
    let there : pageblock < pageblock_count l = pageblock_of_block l block number below low in
    let within : pageblock * 2 ^ l.order + 2 ^ l.order ≤ frame_count l = pageblock_within l pageblock there in
    subst (AreFreeAreasOf l) (sym added)
    (of_back l mid (usable_class zone Movable) l.order (pageblock * 2 ^ l.order % 2 ^ 32) of (omega arith))

-- what follows from success, and from failure, holds
pub either_way : {T E : Type 0} (r : Result T E) (P : Type 0) → OnOk r P → OnErr r P → P
either_way (Ok x) P ok err = ok
either_way (Err e) P ok err = err
