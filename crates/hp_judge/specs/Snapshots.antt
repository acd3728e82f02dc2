-- What the log of a step depends on in a state.
use Rattle.std.specs.Prelude.{◌≡◌, List, Option, Some, None, is_some, map, slice_index_or}
use Rattle.hp_units.specs.Numbers.{Frame, Order, Owner, Page}
use Rattle.hp_units.specs.Arithmetic.{all_frames}
use Rattle.hp_units.specs.LayoutParts.{IsLayout, LayoutParts}
use Rattle.hp_units.specs.Memory.{Memory, kernel_order}
use Rattle.hp_units.specs.Pages.{page_at}
use Rattle.hp_units.specs.Placement.{IsWellPlaced}
use Rattle.hp_judge.specs.LawfulNames.{Row}
use Rattle.hp_judge.specs.Pieces.{Piece, piece_by}
use Rattle.hp_judge.specs.StepNames.{FrameHolder, Nobody, Kernel, OwnerPage}

-- ---- one frame

-- what holds the memory that starts at a frame: a block of the kernel, otherwise a page
abbrev pub holder_by : Option Order → Option (Owner × Page) → FrameHolder
holder_by (Some order) page = Kernel order
holder_by None (Some page) = OwnerPage page.0 page.1
holder_by None None = Nobody

abbrev pub holder_of : Memory → Frame → FrameHolder
holder_of s frame = holder_by (kernel_order s frame) (page_at s.pages frame)

-- the parts of a holder: the order of the kernel's block, the page, and the piece (frames that are
-- in use together)
abbrev pub kernel_in : FrameHolder → Option Order
kernel_in Nobody = None
kernel_in (Kernel order) = Some order
kernel_in (OwnerPage owner page) = None

abbrev pub page_in : FrameHolder → Option (Owner × Page)
page_in Nobody = None
page_in (Kernel order) = None
page_in (OwnerPage owner page) = Some (owner, page)

abbrev pub piece_in : FrameHolder → Option Piece
piece_in holder = piece_by (kernel_in holder) (is_some (page_in holder))

-- ---- a state

-- what holds the memory that starts at each frame, and the row of each memory block
pub record SnapshotValue : Type 0 where
  pub holders : List FrameHolder
  pub rows : List Row

abbrev pub snapshot_of : LayoutParts → Memory → SnapshotValue
snapshot_of l s = record { holders = map (holder_of s) (all_frames l); rows = s.blocks.rows }

-- the snapshot shows a well placed state of a layout
pub record Shows (l : LayoutParts) (s : Memory) (snapshot : SnapshotValue) : Type 0 where
  pub limits : IsLayout l
  pub placed : IsWellPlaced l s
  pub is : snapshot ≡ snapshot_of l s

abbrev pub holder_at : SnapshotValue → Frame → FrameHolder
holder_at snapshot frame = slice_index_or snapshot.holders frame Nobody
