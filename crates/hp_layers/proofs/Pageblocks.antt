-- The pageblocks of a memory block lie in the layout, and their numbers are small.
use Rattle.std.proofs.Common.{◌≡◌, ℕ, suc, ◌+◌, ◌*◌, ◌^◌, ◌<◌, ◌≤◌, Fits, w32, arith}
use Rattle.std.proofs.Math.Nat.{mul-le-mul_left, mul-le-mul_right, one-le-pow, suc-mul}
use Rattle.hp_units.specs.LayoutParts.{LayoutParts, IsLayout}
use Rattle.hp_units.specs.Arithmetic.{pageblock_count}

-- pageblock `number` of a block, by the numbers that the code read
pub pageblock-is : {at block count many : ℕ} (number : ℕ) → at ≡ block → count ≡ many
    → at * count + number ≡ block * many + number
pageblock-is {at} {block} {count} number here all = rw (here, all)

-- that pageblock lies in the layout
pub pageblock-inside : (l : LayoutParts) {block at count number : ℕ} → block < l.blocks → at ≡ block
    → count ≡ l.pageblocks → number < count → at * count + number < pageblock_count l
pageblock-inside l {block} {at} {count} {number} low here many less =
    let more : suc block * l.pageblocks ≤ l.blocks * l.pageblocks = mul-le-mul_right l.pageblocks low in
    rw (pageblock-is number here many) (omega (arith, more, suc-mul block l.pageblocks, many, less))

-- there are no more pageblocks than frames
pub pageblocks-few : (l : LayoutParts) → IsLayout l → pageblock_count l ≤ 2 ^ 20
pageblocks-few l layout =
    let more : l.pageblocks ≤ l.pageblocks * 2 ^ l.order =
    omega (arith, mul-le-mul_left l.pageblocks (one-le-pow l.order 2 (omega arith))) in
    omega (arith, mul-le-mul_left l.blocks more, layout.frames)

-- the pageblock's number fits into 32 bits
pub pageblock-fits : {l : LayoutParts} {block at count number : ℕ} → IsLayout l → block < l.blocks
    → at ≡ block → count ≡ l.pageblocks → number < count → Fits w32 (at * count + number)
pageblock-fits {l} layout low here many less =
    omega (arith, pageblocks-few l layout, pageblock-inside l low here many less)

-- and so does the number of a block's first pageblock
pub first-fits : {l : LayoutParts} {block at count : ℕ} → IsLayout l → block < l.blocks → at ≡ block
    → count ≡ l.pageblocks → Fits w32 (at * count)
first-fits {l} {block} {at} {count} layout low here many =
    let most : block * l.pageblocks ≤ l.blocks * l.pageblocks =
    omega (arith, mul-le-mul_right l.pageblocks low, suc-mul block l.pageblocks) in
    rw (here, many) (omega (arith, most, pageblocks-few l layout))
