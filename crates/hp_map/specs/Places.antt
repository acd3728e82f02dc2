-- The place of a frame in the memory.
use Rattle.std.specs.Prelude.{ℕ, ◌≡◌, ◌+◌, ◌%◌, true, false, List, length, Some, slice_get, IfSome}
use Rattle.hp_units.specs.Arithmetic.{block_of, frame_count, pageblock_of}
use Rattle.hp_units.specs.FreeAreas.{is_on}
use Rattle.hp_units.specs.LayoutParts.{LayoutParts}
use Rattle.hp_units.specs.Memory.{Memory, cached_list, kernel_order, kind_of, row_of}
use Rattle.hp_map.specs.Names.{Pool}
use Rattle.hp_units.specs.Pages.{frame_at}
use Rattle.hp_units.specs.Placement.{covers, free_places}
use Rattle.hp_units.specs.Rows.{is_absent, is_offline}
use Rattle.hp_map.specs.declared.places.Place.{Place}
use Rattle.hp_map.specs.declared.places.Place.TheVariants.{Absent, Offline, Free, Isolated, Kernel, Cached, Page}

-- the frame is in this place. Either its memory block is absent or offline, or it is in one free
-- block, whose pageblock is isolated or not. Or a kernel's block has it, or it is on a list of the
-- processor, or it holds a page of the owner
abbrev pub IsPlaceOf : LayoutParts → Memory → (frame : ℕ) → Place → Type 0
IsPlaceOf l s frame Absent = is_absent (row_of s.blocks (block_of l frame)) ≡ true
IsPlaceOf l s frame Offline = is_offline (row_of s.blocks (block_of l frame)) ≡ true
IsPlaceOf l s frame Free =
    (free_places s.free.areas frame ≡ 1) × ((kind_of s.free.areas (pageblock_of l frame)).isolated ≡ false)
IsPlaceOf l s frame Isolated =
    (free_places s.free.areas frame ≡ 1) × ((kind_of s.free.areas (pageblock_of l frame)).isolated ≡ true)
IsPlaceOf l s frame Kernel =
    (first : ℕ) × (order : ℕ) × (kernel_order s first ≡ Some order) × (covers frame order first ≡ true)
IsPlaceOf l s frame (Cached cpu) = (pool : Pool) × (is_on frame (cached_list s.free cpu pool) ≡ true)
IsPlaceOf l s frame (Page owner) = (page : ℕ) × (frame_at s.pages owner page ≡ Some frame)

-- the place of each frame of the layout, by the frame's number
pub record ArePlacesOf (l : LayoutParts) (s : Memory) (places : List Place) : Type 0 where
  pub count : length places ≡ frame_count l
  pub each : (frame : ℕ) → IfSome (slice_get places frame) (IsPlaceOf l s frame)

-- the sign of a place: a space for absent, `-` for offline, `.` for free, `:` for isolated, and `K`
-- for the kernel's. A processor has the last digit of its number, and an owner has a letter from
-- `a` to `z`. After 26 owners the letters begin again
abbrev pub place_sign : Place → ℕ
place_sign Absent = 32
place_sign Offline = 45
place_sign Free = 46
place_sign Isolated = 58
place_sign Kernel = 75
place_sign (Cached cpu) = 48 + cpu % 10
place_sign (Page owner) = 97 + owner % 26
