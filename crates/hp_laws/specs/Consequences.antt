-- Properties of a frame that the consequences of placement use.
use Rattle.std.specs.Prelude.{◌≡◌, ℕ, ◌+◌, ◌^◌, ◌<◌, ◌≤◌, ◌||◌, true, Some}
use Rattle.hp_units.specs.declared.rows.Class.{Class}
use Rattle.hp_units.specs.declared.rows.Zone.{Zone}
use Rattle.hp_units.specs.LayoutParts.{LayoutParts}
use Rattle.hp_units.specs.Arithmetic.{block_of}
use Rattle.hp_units.specs.Memory.{FreeAreas, Memory, free_list, row_of}
use Rattle.hp_units.specs.FreeAreas.{is_on}
use Rattle.hp_units.specs.Rows.{is_claimed_by, is_going, is_online}

-- the frame is one of the block of this order that starts at `first`
pub record IsFrameOf (frame order first : ℕ) : Type 0 where
  pub low : first ≤ frame
  pub high : frame < first + 2 ^ order

-- the frame is in a free block, one on the list of some class and order
pub record IsInFreeBlock (a : FreeAreas) (frame : ℕ) : Type 0 where
  pub class : Class
  pub order : ℕ
  pub first : ℕ
  pub on : is_on first (free_list a class order) ≡ true
  pub within : IsFrameOf frame order first

-- the frame is in a block that the operation is taking offline
pub record IsGoingFor (l : LayoutParts) (s : Memory) (op frame : ℕ) : Type 0 where
  pub claimed : is_claimed_by op (row_of s.blocks (block_of l frame)) ≡ true
  pub going : is_going (row_of s.blocks (block_of l frame)) ≡ true

-- the frame is in a block that the operation is taking offline, and it is in use: it is in no free
-- block
pub record IsFrameInUse (l : LayoutParts) (s : Memory) (op frame : ℕ) : Type 0 where
  pub going : IsGoingFor l s op frame
  pub not_free : IsInFreeBlock s.free.areas frame → ⊥

-- the frame is the lowest in use in the blocks that the operation is taking offline
pub record IsLowestInUse (l : LayoutParts) (s : Memory) (op frame : ℕ) : Type 0 where
  pub here : IsFrameInUse l s op frame
  pub lowest : (other : ℕ) → IsFrameInUse l s op other → frame ≤ other

-- the frame is in a memory block that has a zone, and that is online or going
pub record IsPluggedIn (l : LayoutParts) (s : Memory) (frame : ℕ) : Type 0 where
  pub zone : (zone : Zone) × ((row_of s.blocks (block_of l frame)).zone ≡ Some zone)
  pub state : (is_online (row_of s.blocks (block_of l frame))
      || is_going (row_of s.blocks (block_of l frame))) ≡ true
