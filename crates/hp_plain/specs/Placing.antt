-- Marks that count in how many places each frame is, and what a well placed state
-- requires of each part.
use Rattle.std.specs.Prelude.{◌≡◌, ℕ, zero, suc, ◌+◌, ◌<◌, ◌≤◌, true, false, List, Option, None, Some, slice_index_or, if◌then◌else◌, IfSome, count_by}
use Rattle.std.specs.List.{enumerate_from}
use Rattle.std.specs.Option.{option_map_or}
use Rattle.hp_units.specs.Numbers.{Frame, Order, Pageblock, Block, Cpu, Owner, Page}
use Rattle.hp_plain.specs.Names.{NormalZone, Unmovable, Class, Pool, NuPool, NmPool, MmPool, Kind, Row}
use Rattle.hp_units.specs.LayoutParts.{LayoutParts}
use Rattle.hp_units.specs.Arithmetic.{block_of, buddy, pageblock_of}
use Rattle.hp_units.specs.Memory.{FreeAreas, FreeFrames, Memory, Pages, cached_list, free_list, offline_row}
use Rattle.hp_units.specs.FreeAreas.{is_on}
use Rattle.hp_units.specs.Pages.{frame_at, words_at}
use Rattle.hp_units.specs.Rows.{is_going}
use Rattle.hp_units.specs.Placement.{IsBlockOf, IsKernelAt, IsPage, IsRow, class_at, covers, is_unplugged, kind_at, places_of, pool_at, row_at}

-- ---- marks

-- the mark of a frame: in how many places it is. A number outside the layout is in
-- one, as if offline
abbrev pub mark_of : List ℕ → Frame → ℕ
mark_of marks frame = slice_index_or marks frame 1

-- each frame's mark in `new` is its mark in `old` plus `places` of the frame
pub record AreMarked (old new : List ℕ) (places : Frame → ℕ) : Type 0 where
  pub adds : (frame : Frame) → mark_of new frame ≡ mark_of old frame + places frame

-- some frame would be in two places
pub record IsTwice (old : List ℕ) (places : Frame → ℕ) : Type 0 where
  pub frame : Frame
  pub twice : 2 ≤ mark_of old frame + places frame

-- the row of a block, or an offline one past the last
abbrev pub row_in : List Row → Block → Row
row_in rows block = slice_index_or rows block offline_row

-- 1 for a frame of an offline or absent block, 0 otherwise
abbrev pub unplugged : LayoutParts → List Row → Frame → ℕ
unplugged l rows frame = if is_unplugged (row_in rows (block_of l frame)) then 1 else 0

-- ---- what is required of each part

-- each block on a free list of a class and an order is aligned and in a pageblock of that class
abbrev pub IsListPlaced : LayoutParts → List Kind → List Row → Class → Order → List Frame → Type 0
IsListPlaced l kinds rows class order frames = (first : Frame) → is_on first frames ≡ true
    → IsBlockOf l (class_at l kinds rows) class order first

-- each free block is aligned and in a pageblock of its class
abbrev pub AreListsPlaced : LayoutParts → FreeAreas → List Row → Type 0
AreListsPlaced l a rows = (class : Class) (order : Order)
    → IsListPlaced l a.kinds rows class order (free_list a class order)

-- no block of a free list has its buddy on the list
abbrev pub IsListJoined : List Frame → Order → Type 0
IsListJoined frames order = (first : Frame) → is_on first frames ≡ true
    → is_on (buddy first order) frames ≡ false

-- below the greatest order, no free block's buddy is free in the same class
abbrev pub AreListsJoined : LayoutParts → FreeAreas → Type 0
AreListsJoined l a = (class : Class) (order : Order) → order < l.order
    → IsListJoined (free_list a class order) order

-- each frame on a processor's list of a pool is in a pageblock of that pool
abbrev pub IsPoolPlaced : LayoutParts → List Kind → List Row → Pool → List Frame → Type 0
IsPoolPlaced l kinds rows pool frames = (frame : Frame) → is_on frame frames ≡ true
    → pool_at l kinds rows (pageblock_of l frame) ≡ Some pool

-- each frame on any processor's list is in a pageblock of the list's pool
abbrev pub ArePoolsPlaced : LayoutParts → FreeFrames → List Row → Type 0
ArePoolsPlaced l fs rows = (cpu : Cpu) (pool : Pool)
    → IsPoolPlaced l fs.areas.kinds rows pool (cached_list fs cpu pool)

-- each kernel block is aligned, of an order of the layout, and in zone Normal
abbrev pub IsKernelPlaced : LayoutParts → List Row → List (Option Order) → Type 0
IsKernelPlaced l rows kernel = (first : Frame)
    → IfSome (slice_index_or kernel first None) (IsKernelAt l rows first)

-- a pageblock's kind fits the row of its memory block
pub record IsKind (kind : Kind) (row : Row) : Type 0 where
  pub mobility : kind.mobility ≡ Unmovable → row.zone ≡ Some NormalZone
  pub isolated : kind.isolated ≡ is_going row

-- each pageblock's kind fits the row of its memory block
abbrev pub AreKinds : LayoutParts → List Kind → List Row → Type 0
AreKinds l kinds rows = (pageblock : Pageblock) → IsKind (kind_at kinds pageblock) (row_at l rows pageblock)

-- in each row, the zone and the claim fit the state
abbrev pub AreRows : List Row → Type 0
AreRows rows = (block : Block) → IsRow (row_in rows block)

-- each page of an owner has both a frame and the layout's number of words, or neither
abbrev pub AreOwnersPages : LayoutParts → Pages → Owner → Type 0
AreOwnersPages l ps owner = (page : Page) → IsPage l (frame_at ps owner page) (words_at ps owner page)

-- each page has both a frame and the layout's number of words, or neither
abbrev pub ArePages : LayoutParts → Pages → Type 0
ArePages l ps = (owner : Owner) → AreOwnersPages l ps owner

-- the pool with this number; any greater number gives the last pool
abbrev pub pool_numbered : ℕ → Pool
pool_numbered zero = NuPool
pool_numbered (suc zero) = NmPool
pool_numbered (suc (suc n)) = MmPool

-- 1 if the frame is in the kernel block that starts at `first`, if there is one; otherwise 0
abbrev pub kernel_covered : (frame first : Frame) → Option Order → ℕ
kernel_covered frame first entry =
    if option_map_or (λ order. covers frame order first) entry false then 1 else 0

-- in how many kernel blocks a frame is
abbrev pub kernel_counts : List (Option Order) → Frame → ℕ
kernel_counts kernel frame =
    count_by (λ entry. option_map_or (λ order. covers frame order entry.0) entry.1 false)
    (enumerate_from 0 kernel)

-- the lists, the kernel blocks and the pages are where they may be, and each frame is in exactly
-- one place
pub record ArePlacedOnce (l : LayoutParts) (s : Memory) : Type 0 where
  pub free : AreListsPlaced l s.free.areas s.blocks.rows
  pub cached : ArePoolsPlaced l s.free s.blocks.rows
  pub kernel : IsKernelPlaced l s.blocks.rows s.kernel
  pub pages : ArePages l s.pages
  pub once : (frame : Frame) → places_of l s frame ≡ 1
