-- Well placed states: each frame is in exactly one place, and each place agrees with the blocks'
-- rows.
use Rattle.std.specs.Prelude.{◌≡◌, ℕ, ◌+◌, ◌*◌, ◌/◌, ◌%◌, ◌^◌, ◌<◌, ◌≤◌, Bool, true, false, ◌&&◌, ◌||◌, List, [], ◌∷◌, Option, Some, None, ◌==◌, nat_lt, nat_le, length, count_by, sum_by, slice_index_or, IfSome, IsSome, if◌then◌else◌}
use Rattle.std.specs.List.{AllByRecursion, enumerate_from}
use Rattle.std.specs.Option.{option_map, option_map_or}
use Rattle.hp_units.specs.Numbers.{Frame, Order, Pageblock, Block, Cpu, Owner, Page}
use Rattle.hp_units.specs.Names.{Zone, NormalZone, Unmovable, Class, Pool, OfflineState, OnlineState, GoingState, AbsentState, State, Row, Claim, Kind}
use Rattle.hp_units.specs.LayoutParts.{LayoutParts}
use Rattle.hp_units.specs.Arithmetic.{buddy, frame_count, pageblock_count, pageblock_of, block_of, block_of_pageblock}
use Rattle.hp_units.specs.Memory.{FreeAreas, FreeFrames, Pages, Memory, free_list, cached_list, kernel_order, row_of, pool_of, plain_kind, offline_row}
use Rattle.hp_units.specs.FreeAreas.{is_on, class_of_kind}
use Rattle.hp_units.specs.Pages.{holds, frame_at, words_at}
use Rattle.hp_units.specs.Rows.{is_off, is_absent, is_going, is_offline}

-- ---- the numbers of a state are those of its layout

-- the lists have the layout's lengths
pub record IsShaped (l : LayoutParts) (s : Memory) : Type 0 where
  pub lists : length s.free.areas.lists ≡ 5 * (l.order + 1)
  pub kinds : length s.free.areas.kinds ≡ pageblock_count l
  pub cached : length s.free.cached ≡ 3 * l.cpus
  pub owners : length s.pages.table ≡ l.owners
  pub pages : AllByRecursion (λ row. length row ≡ l.pages) s.pages.table
  pub content_owners : length s.pages.contents ≡ l.owners
  pub content_pages : AllByRecursion (λ row. length row ≡ l.pages) s.pages.contents
  pub kernel : length s.kernel ≡ frame_count l
  pub rows : length s.blocks.rows ≡ l.blocks

-- ---- in how many places a frame is

-- a block of this order that starts at `first` contains the frame
abbrev pub covers : (frame : Frame) (order : Order) (first : Frame) → Bool
covers frame order first = nat_le first frame && nat_lt frame (first + 2 ^ order)

-- 1 if the block contains the frame, 0 otherwise
abbrev pub covered : (frame : Frame) (order : Order) (first : Frame) → ℕ
covered frame order first = if covers frame order first then 1 else 0

-- how many blocks on a list contain the frame; how many blocks on list `number` and all later ones
-- do. The number of a list is five times its order plus the index of its class
abbrev pub list_places : (frame : Frame) (order : Order) → List Frame → ℕ
list_places frame order frames = count_by (covers frame order) frames

abbrev pub places_from : (frame : Frame) (number : ℕ) → List (List Frame) → ℕ
places_from frame number [] = 0
places_from frame number (frames ∷ lists) =
    list_places frame (number / 5) frames + places_from frame (number + 1) lists

abbrev pub free_places : FreeAreas → Frame → ℕ
free_places a frame = places_from frame 0 a.lists

abbrev pub cached_places : FreeFrames → Frame → ℕ
cached_places fs frame = sum_by (λ frames. count_by (λ other. other == frame) frames) fs.cached

abbrev pub mapped_places : Pages → Frame → ℕ
mapped_places ps frame = sum_by (λ row. count_by (holds frame) row) ps.table

abbrev pub kernel_places : Memory → Frame → ℕ
kernel_places s frame =
    count_by (λ entry. option_map_or (λ order. covers frame order entry.0) entry.1 false)
    (enumerate_from 0 s.kernel)

-- whether a block is offline or absent, which counts as one place of each of its frames
abbrev pub is_unplugged : Row → Bool
is_unplugged row = is_offline row || is_absent row

abbrev pub offline_places : LayoutParts → Memory → Frame → ℕ
offline_places l s frame = if is_unplugged (row_of s.blocks (block_of l frame)) then 1 else 0

abbrev pub places_of : LayoutParts → Memory → Frame → ℕ
places_of l s frame =
    free_places s.free.areas frame + cached_places s.free frame + mapped_places s.pages frame
    + kernel_places s frame + offline_places l s frame

-- ---- what must hold of free blocks, kernel blocks, rows and pages

-- a pageblock's row and kind, and the class of its free blocks and the pool of its single frames;
-- None without a zone
abbrev pub row_at : LayoutParts → List Row → Pageblock → Row
row_at l rows pageblock = slice_index_or rows (block_of_pageblock l pageblock) offline_row

abbrev pub kind_at : List Kind → Pageblock → Kind
kind_at kinds pageblock = slice_index_or kinds pageblock plain_kind

abbrev pub class_at : LayoutParts → List Kind → List Row → Pageblock → Option Class
class_at l kinds rows pageblock =
    option_map (λ zone. class_of_kind zone (kind_at kinds pageblock)) (row_at l rows pageblock).zone

abbrev pub pool_at : LayoutParts → List Kind → List Row → Pageblock → Option Pool
pool_at l kinds rows pageblock =
    option_map (λ zone. pool_of zone (kind_at kinds pageblock).mobility) (row_at l rows pageblock).zone

-- a valid free block of this class and order: it starts at a multiple of its size, and its class is
-- that of its pageblock
pub record IsBlockOf (l : LayoutParts) (class_at : Pageblock → Option Class) (class : Class) (order : Order)
    (first : Frame) : Type 0 where
  pub aligned : first % 2 ^ order ≡ 0
  pub class_agrees : class_at (pageblock_of l first) ≡ Some class

-- a valid kernel block: its order is in the layout, it starts at a multiple of its size, and it is
-- in zone Normal
pub record IsKernelAt (l : LayoutParts) (rows : List Row) (first : Frame) (order : Order) : Type 0 where
  pub in_order : order ≤ l.order
  pub aligned : first % 2 ^ order ≡ 0
  pub normal : (row_at l rows (pageblock_of l first)).zone ≡ Some NormalZone

-- a valid row: it has a zone unless it is offline or absent. It is going if and only if it has a
-- claim of wish Off; only an offline row has any other claim
abbrev pub wishes_off : Option Claim → Bool
wishes_off claim = option_map_or (λ c. is_off c.wish) claim false

abbrev pub IsRowOf : State → Option Zone → Option Claim → Type 0
IsRowOf OnlineState zone claim = IsSome zone × (claim ≡ None)
IsRowOf GoingState zone claim = IsSome zone × (wishes_off claim ≡ true)
IsRowOf OfflineState zone claim = (zone ≡ None) × (wishes_off claim ≡ false)
IsRowOf AbsentState zone claim = (zone ≡ None) × (claim ≡ None)

abbrev pub IsRow : Row → Type 0
IsRow row = IsRowOf row.state row.zone row.claim

-- a page has words if and only if it has a frame, and then as many as the layout says
abbrev pub IsPage : LayoutParts → Option Frame → Option (List ℕ) → Type 0
IsPage l None None = Unit {0}
IsPage l None (Some words) = ⊥
IsPage l (Some frame) None = ⊥
IsPage l (Some frame) (Some words) = length words ≡ l.words

-- ---- well placed states

-- the parts of a state agree. Free blocks are on lists of their class, and frames on processors'
-- lists are on lists of their pool. Below the greatest order, no two buddies are on one list. Rows,
-- kinds, kernel blocks and pages are valid
pub record IsInOrder (l : LayoutParts) (s : Memory) : Type 0 where
  pub shape : IsShaped l s
  pub blocks : (class : Class) (order : Order) (first : Frame)
      → is_on first (free_list s.free.areas class order) ≡ true
      → IsBlockOf l (class_at l s.free.areas.kinds s.blocks.rows) class order first
  pub joined : (class : Class) (order : Order) (first : Frame) → order < l.order
      → is_on first (free_list s.free.areas class order) ≡ true
      → is_on (buddy first order) (free_list s.free.areas class order) ≡ false
  pub cached : (cpu : Cpu) (pool : Pool) (frame : Frame) → is_on frame (cached_list s.free cpu pool) ≡ true
      → pool_at l s.free.areas.kinds s.blocks.rows (pageblock_of l frame) ≡ Some pool
  pub kernel : (first : Frame) → IfSome (kernel_order s first) (IsKernelAt l s.blocks.rows first)
  pub mobility : (pageblock : Pageblock) → (kind_at s.free.areas.kinds pageblock).mobility ≡ Unmovable
      → (row_at l s.blocks.rows pageblock).zone ≡ Some NormalZone
  pub isolated : (pageblock : Pageblock)
      → (kind_at s.free.areas.kinds pageblock).isolated ≡ is_going (row_at l s.blocks.rows pageblock)
  pub rows : (block : Block) → IsRow (row_of s.blocks block)
  pub words : (owner : Owner) (page : Page)
      → IsPage l (frame_at s.pages owner page) (words_at s.pages owner page)

-- a well placed state: its parts agree, and each frame is in exactly one place. Numbers beyond the
-- layout count as offline
pub record IsWellPlaced (l : LayoutParts) (s : Memory) : Type 0 where
  pub in_order : IsInOrder l s
  pub once : (frame : Frame) → places_of l s frame ≡ 1
