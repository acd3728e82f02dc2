-- What a commit requires of an operation's blocks, block by block.
use Rattle.std.specs.Prelude.{ℕ, ◌≡◌, ◌≤◌, Bool, true, false, not, List, [], find, unwrap_or, if◌then◌else◌}
use Rattle.std.specs.List.{flat_map, list_all}
use Rattle.hp_units.specs.LayoutParts.{LayoutParts}
use Rattle.hp_units.specs.Numbers.{ancestor}
use Rattle.hp_units.specs.Arithmetic.{frames_of_block}
use Rattle.hp_units.specs.Memory.{FreeAreas, Memory, row_of}
use Rattle.hp_units.specs.Refusals.{is_all_free, is_free_start, is_in_free_block}
use Rattle.hp_units.specs.Rows.{is_going}

-- a commit can give the block its wish: a going block must be all free, any other is ready as it is
abbrev pub is_ready : LayoutParts → Memory → (block : ℕ) → Bool
is_ready l s block = if is_going (row_of s.blocks block) then is_all_free l s block else true

-- the frames of a block if it is going, otherwise none
abbrev pub leaving_frames : LayoutParts → Memory → (block : ℕ) → List ℕ
leaving_frames l s block = if is_going (row_of s.blocks block) then frames_of_block l block else []

-- the frame is in no free block
abbrev pub is_in_use : LayoutParts → Memory → (frame : ℕ) → Bool
is_in_use l s frame = not (is_in_free_block l s.free.areas frame)

-- some block is not ready; the frame is the first in use in the going blocks, in the order of
-- `blocks`, or 0 if none is in use
abbrev pub IsHeldBy : LayoutParts → Memory → (blocks : List ℕ) → (frame : ℕ) → Type 0
IsHeldBy l s blocks frame =
    (list_all (is_ready l s) blocks ≡ false)
    × (frame ≡ unwrap_or (find (is_in_use l s) (flat_map (leaving_frames l s) blocks)) 0)

-- the frame is in a free block of this order
pub record IsCovered (l : LayoutParts) (a : FreeAreas) (frame order : ℕ) : Type 0 where
  pub within : order ≤ l.order
  pub free : is_free_start a order (ancestor frame order) ≡ true
