-- The cells of a memory block: a character for each of its frames, and a bar between pageblocks.
use Rattle.std.specs.Prelude.{ℕ, ◌+◌, ◌*◌, ◌/◌, ◌%◌, ◌==◌, ◌&&◌, nat_lt, Bool, List, [], ◌∷◌, ◌++◌, codes, slice_get, unwrap_or, if◌then◌else◌}
use Rattle.std.specs.List.{flat_map, range_with_len}
use Rattle.hp_units.specs.Arithmetic.{block_size, pageblock_size}
use Rattle.hp_units.specs.LayoutParts.{LayoutParts}
use Rattle.hp_map.specs.Places.{place_sign}
use Rattle.hp_map.specs.declared.places.Place.{Place}
use Rattle.hp_map.specs.declared.places.Place.TheVariants.{Absent}

-- the frame, counted from the first of its memory block, starts a pageblock after the first
abbrev pub starts_later : LayoutParts → (number : ℕ) → Bool
starts_later l number = nat_lt 0 number && (number % pageblock_size l == 0)

-- the number of characters before a frame in the cells of its memory block; frames are counted from
-- the first of the block
abbrev pub cell_at : LayoutParts → (number : ℕ) → ℕ
cell_at l number = number + number / pageblock_size l

-- a character, after a bar if it starts a later pageblock
abbrev pub cell_text : (is_later : Bool) → (sign : ℕ) → List ℕ
cell_text is_later sign = (if is_later then codes "|" else []) ++ sign ∷ []

-- the place of a frame; Absent for a number past the last of `places`
abbrev pub place_at : List Place → (frame : ℕ) → Place
place_at places frame = unwrap_or (slice_get places frame) Absent

-- the character of a frame in the block's cells, after a bar if the frame starts a later pageblock
abbrev pub frame_text : LayoutParts → List Place → (block number : ℕ) → List ℕ
frame_text l places block number =
    cell_text (starts_later l number) (place_sign (place_at places (block * block_size l + number)))

-- the cells of a block: the sign of each frame's place, by rising number
abbrev pub cells_text : LayoutParts → List Place → (block : ℕ) → List ℕ
cells_text l places block = flat_map (frame_text l places block) (range_with_len 0 (block_size l))
