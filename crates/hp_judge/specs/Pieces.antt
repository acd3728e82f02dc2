-- The pieces of memory that are in use: the kernel's blocks, and the frames that hold pages.
use Rattle.std.specs.Prelude.{Bool, true, false, not, ◌^◌, ◌&&◌, ◌==◌, if◌then◌else◌, List, [], ◌∷◌, Option, Some, None, is_some}
use Rattle.hp_units.specs.Numbers.{Frame, Order}
use Rattle.hp_units.specs.Memory.{Memory, kernel_order}
use Rattle.hp_units.specs.Pages.{page_at}
use Rattle.hp_judge.specs.Events.{lies_within}
use Rattle.hp_judge.specs.LawfulNames.{LogEvent, Alloc, Free}

-- 2^order frames that are in use together; a page can move, a block of the kernel cannot
pub record Piece : Type 0 where
  pub order : Order
  pub movable : Bool

abbrev pub kernel_piece : Order → Piece
kernel_piece order = record { order = order; movable = false }

abbrev pub page_piece : Piece
page_piece = record { order = 0; movable = true }

-- the piece that starts at a frame: the kernel's block that starts there, or otherwise the page that the
-- frame holds
abbrev pub piece_by : Option Order → Bool → Option Piece
piece_by (Some order) holds_page = Some (kernel_piece order)
piece_by None true = Some page_piece
piece_by None false = None

-- the piece that starts at a frame
abbrev pub piece_at : Memory → Frame → Option Piece
piece_at s frame = piece_by (kernel_order s frame) (is_some (page_at s.pages frame))

-- the frame is one of the piece that starts at `first`, if there is one
abbrev pub is_frame_of : (frame first : Frame) → Option Piece → Bool
is_frame_of frame first None = false
is_frame_of frame first (Some piece) = lies_within first (2 ^ piece.order) frame

-- there are two pieces, both have the same number of frames, and both or neither can move
abbrev pub same_piece : Option Piece → Option Piece → Bool
same_piece (Some piece) (Some next) =
    piece.order == next.order && (if piece.movable then next.movable else not next.movable)
same_piece piece next = false

-- the events of a piece that comes back, and of one that is handed out
abbrev pub free_events : Frame → Option Piece → List LogEvent
free_events frame None = []
free_events frame (Some piece) = Free frame piece.order ∷ []

abbrev pub alloc_events : Frame → Option Piece → List LogEvent
alloc_events frame None = []
alloc_events frame (Some piece) = Alloc frame piece.order piece.movable ∷ []
