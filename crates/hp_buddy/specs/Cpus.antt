-- The value of the processors' lists in contracts, and what the calls require of them together with
-- the free areas.
use Rattle.std.specs.Prelude.{ℕ, ◌≡◌, ◌+◌, ◌*◌, ◌≤◌, ◌==◌, List, [], length, slice_index_or, slice_set, sum_by, count_by, if◌then◌else◌}
use Rattle.hp_units.specs.declared.rows.Pool.{Pool}
use Rattle.hp_units.specs.LayoutParts.{LayoutParts, IsLayout}
use Rattle.hp_units.specs.Arithmetic.{IsFrame, frame_count}
use Rattle.hp_units.specs.Memory.{FreeAreas, FreeFrames, pool_index}
use Rattle.hp_units.specs.Placement.{free_places}
use Rattle.hp_buddy.specs.LinkedLists.{LinkedLists}
use Rattle.hp_buddy.specs.Buddy.{BuddyValue, AreApart}

-- the layout, and each processor's list of each pool
pub record CpusValue : Type 0 where
  pub layout : LayoutParts
  pub cached : List (List ℕ)

-- the processors' lists together with free areas
abbrev pub frames_of : FreeAreas → CpusValue → FreeFrames
frames_of a c = record { areas = a; cached = c.cached }

-- a processor's list of a pool
abbrev pub list_of : CpusValue → ℕ → Pool → List ℕ
list_of c cpu pool = slice_index_or c.cached (3 * cpu + pool_index pool) []

-- all lists, with a processor's list of a pool replaced
abbrev pub with_list_of : CpusValue → ℕ → Pool → List ℕ → CpusValue
with_list_of c cpu pool frames = record c { cached = slice_set c.cached (3 * cpu + pool_index pool) frames }

-- ---- in how many places a frame is

-- how often a frame is on the processors' lists
abbrev pub places_in : CpusValue → ℕ → ℕ
places_in c frame = sum_by (λ frames. count_by (λ other. other == frame) frames) c.cached

-- in how many free blocks and on how many processors' lists a frame is
abbrev pub places_among : FreeAreas → CpusValue → ℕ → ℕ
places_among a c frame = free_places a frame + places_in c frame

-- 1 for this frame, 0 for all others
abbrev pub one_at : (frame other : ℕ) → ℕ
one_at frame other = if frame == other then 1 else 0

-- ---- what calls require and keep

-- the free areas and the processors' lists are of one layout, and free blocks are apart. Frames on
-- processors' lists are within the layout, and no frame is in two of these places. All this holds
-- of every well placed state
pub record AreTogether (c : CpusValue) (b : BuddyValue) : Type 0 where
  pub layout : b.layout ≡ c.layout
  pub lists : length c.cached ≡ 3 * c.layout.cpus
  pub areas : AreApart c.layout b.areas
  pub within : (frame : ℕ) → frame_count c.layout ≤ frame → places_in c frame ≡ 0
  pub once : (frame : ℕ) → places_among b.areas c frame ≤ 1

-- the frame may be put on a list or given to the areas: it is within the layout, in no free block
-- and on no processor's list
pub record MayBePut (c : CpusValue) (b : BuddyValue) (frame : ℕ) : Type 0 where
  pub within : IsFrame c.layout frame
  pub nowhere : places_among b.areas c frame ≡ 0

-- ---- how the lists are stored

-- the table has the sizes of the layout
pub record IsCpusOf (l : LayoutParts) (links : LinkedLists) : Type 0 where
  pub layout : IsLayout l
  pub frame_count : links.frame_count ≡ frame_count l
  pub list_count : length links.lists ≡ 3 * l.cpus
