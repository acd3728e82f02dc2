-- The value of the layer of free areas in contracts, and what its calls require and keep.
use Rattle.std.specs.Prelude.{ℕ, ◌≡◌, ◌+◌, ◌*◌, ◌/◌, ◌%◌, ◌^◌, ◌<◌, ◌≤◌, true, List, [], ◌∷◌, Option, Some, None, length, if◌then◌else◌}
use Rattle.hp_units.specs.declared.rows.Class.{Class}
use Rattle.hp_units.specs.declared.rows.Kind.{Kind}
use Rattle.hp_units.specs.LayoutParts.{LayoutParts, IsLayout}
use Rattle.hp_units.specs.Arithmetic.{frame_count, pageblock_count}
use Rattle.hp_units.specs.Memory.{FreeAreas, free_list, class_numbered}
use Rattle.hp_units.specs.FreeAreas.{is_on}
use Rattle.hp_units.specs.InLayout.{AreFreeAreasOf}
use Rattle.hp_units.specs.Placement.{covered, free_places}
use Rattle.hp_buddy.specs.LinkedLists.{LinkedLists, successor}

-- the layout, and its free areas
pub record BuddyValue : Type 0 where
  pub layout : LayoutParts
  pub areas : FreeAreas

-- ---- what calls keep

-- each free block lies within the frames, at a multiple of its size, and no frame is in two of them
-- (Knuth, volume 1, section 2.5)
pub record AreApart (l : LayoutParts) (a : FreeAreas) : Type 0 where
  pub areas : AreFreeAreasOf l a
  pub aligned : (class : Class) (order first : ℕ) → is_on first (free_list a class order) ≡ true
      → first % 2 ^ order ≡ 0
  pub once : (frame : ℕ) → free_places a frame ≤ 1

-- ---- what a block must be to come back

-- a block may be given back: its order is in the layout, and it lies within the frames at a
-- multiple of its size. None of its frames is in a free block
pub record MayBeGiven (l : LayoutParts) (a : FreeAreas) (order first : ℕ) : Type 0 where
  pub in_order : order ≤ l.order
  pub aligned : first % 2 ^ order ≡ 0
  pub within : first + 2 ^ order ≤ frame_count l
  pub unfree : (frame : ℕ) → first ≤ frame → frame < first + 2 ^ order → free_places a frame ≡ 0

-- ---- in how many free blocks a frame is, with one block more

-- in `more`, each frame of the block is in one free block more than in `less`; all others are in
-- equally many
abbrev pub HasBlockMore : (more less : FreeAreas) → (order first : ℕ) → Type 0
HasBlockMore more less order first =
    (frame : ℕ) → free_places more frame ≡ free_places less frame + covered frame order first

-- ---- on which list a free block is

-- the class and the order of the list that a frame is on; a list's number is five times its order
-- plus its class
abbrev pub place_from : (frame number : ℕ) → List (List ℕ) → Option (Class × ℕ)
place_from frame number [] = None
place_from frame number (frames ∷ lists) =
    if is_on frame frames then Some (class_numbered (number % 5), number / 5) else place_from frame
    (number + 1) lists

abbrev pub place_of : FreeAreas → ℕ → Option (Class × ℕ)
place_of a frame = place_from frame 0 a.lists

-- the frame after this one on the list that it is on
abbrev pub next_from : ℕ → List (List ℕ) → Option ℕ
next_from frame [] = None
next_from frame (frames ∷ lists) =
    if is_on frame frames then successor frame frames else next_from frame lists

abbrev pub next_of : FreeAreas → ℕ → Option ℕ
next_of a frame = next_from frame a.lists

-- ---- how the areas are stored

-- the tables have the sizes of the layout
pub record IsBuddyOf (l : LayoutParts) (links : LinkedLists) (kinds : List Kind) : Type 0 where
  pub layout : IsLayout l
  pub frame_count : links.frame_count ≡ frame_count l
  pub list_count : length links.lists ≡ 5 * (l.order + 1)
  pub kind_count : length kinds ≡ pageblock_count l
