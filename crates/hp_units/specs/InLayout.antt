-- The numbers in a state are within its layout. The functions on a state require this, and it holds
-- of every well placed state (specs/Placement).
use Rattle.std.specs.Prelude.{◌≡◌, ◌+◌, ◌*◌, ◌^◌, ◌≤◌, true, List, Option, None, length, slice_index_or, IfSome}
use Rattle.std.specs.List.{AllByRecursion}
use Rattle.hp_units.specs.Numbers.{Frame, Order, Cpu, Owner, Page}
use Rattle.hp_units.specs.Names.{Class, Pool}
use Rattle.hp_units.specs.LayoutParts.{LayoutParts}
use Rattle.hp_units.specs.Arithmetic.{IsFrame, frame_count, pageblock_count}
use Rattle.hp_units.specs.Memory.{FreeAreas, FreeFrames, Pages, Blocks, Memory, free_list, cached_list}
use Rattle.hp_units.specs.FreeAreas.{is_on}
use Rattle.hp_units.specs.Pages.{frame_at, words_at}

-- a list per class and order, a kind per pageblock, and each free block within the layout's frames
pub record AreFreeAreasOf (l : LayoutParts) (a : FreeAreas) : Type 0 where
  pub lists : length a.lists ≡ 5 * (l.order + 1)
  pub kinds : length a.kinds ≡ pageblock_count l
  pub free : (class : Class) (order : Order) (first : Frame) → is_on first (free_list a class order) ≡ true
      → first + 2 ^ order ≤ frame_count l

-- the free areas are within the layout, there are three lists of frames per processor, and each
-- frame on them is one of the layout
pub record AreFreeFramesOf (l : LayoutParts) (fs : FreeFrames) : Type 0 where
  pub areas : AreFreeAreasOf l fs.areas
  pub lists : length fs.cached ≡ 3 * l.cpus
  pub cached : (cpu : Cpu) (pool : Pool) (frame : Frame) → is_on frame (cached_list fs cpu pool) ≡ true
      → IsFrame l frame

-- there is an entry for each owner and page of the layout. A page that has a frame has one of the
-- layout, and a page that has words has as many as the layout says
pub record ArePagesOf (l : LayoutParts) (ps : Pages) : Type 0 where
  pub owners : length ps.table ≡ l.owners
  pub pages : AllByRecursion (λ row. length row ≡ l.pages) ps.table
  pub content_owners : length ps.contents ≡ l.owners
  pub content_pages : AllByRecursion (λ row. length row ≡ l.pages) ps.contents
  pub mapped : (owner : Owner) (page : Page) → IfSome (frame_at ps owner page) (IsFrame l)
  pub words : (owner : Owner) (page : Page)
      → IfSome (words_at ps owner page) (λ words. length words ≡ l.words)

-- there is an entry per frame, and kernel blocks have orders of the layout
pub record AreKernelBlocksOf (l : LayoutParts) (kernel : List (Option Order)) : Type 0 where
  pub frames : length kernel ≡ frame_count l
  pub orders : (first : Frame) → IfSome (slice_index_or kernel first None) (λ order. order ≤ l.order)

-- a row per memory block
pub record AreBlocksOf (l : LayoutParts) (bs : Blocks) : Type 0 where
  pub rows : length bs.rows ≡ l.blocks

-- all parts of the state are within the layout
pub record IsMemoryOf (l : LayoutParts) (s : Memory) : Type 0 where
  pub free : AreFreeFramesOf l s.free
  pub pages : ArePagesOf l s.pages
  pub kernel : AreKernelBlocksOf l s.kernel
  pub blocks : AreBlocksOf l s.blocks
