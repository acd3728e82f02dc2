-- The value of an Image in contracts, and the effect of setting one part of it.
use Rattle.std.specs.Prelude.{◌+◌, ◌^◌, ◌<◌, ◌≤◌, ◌≡◌, [], ◌∷◌, ◌++◌, Some, length}
use Rattle.hp_units.specs.LayoutParts.{LayoutParts}
use Rattle.hp_units.specs.Arithmetic.{IsFrame, frame_count, pageblock_count}
use Rattle.hp_units.specs.Memory.{Memory, cached_list, with_cached_list, with_kind, with_kernel_order}
use Rattle.hp_units.specs.FreeAreas.{with_back}
use Rattle.hp_units.specs.Pages.{map_page}
use Rattle.hp_units.specs.Rows.{with_areas, with_block_row}
use Rattle.hp_plain.specs.declared.parts.Part.{Part}
use Rattle.hp_plain.specs.declared.parts.Part.TheVariants.{Free, Cached, Mapped, Kernel, Kind, Row, Auto}

-- a layout and a state
pub record Pictured : Type 0 where
  pub layout : LayoutParts
  pub memory : Memory

-- the numbers of a part are within the layout
abbrev pub IsPartOf : LayoutParts → Part → Type 0
IsPartOf l (Free class order frame) = (order ≤ l.order) × (frame + 2 ^ order ≤ frame_count l)
IsPartOf l (Cached cpu pool frame) = (cpu < l.cpus) × IsFrame l frame
IsPartOf l (Mapped owner page frame words) =
    (owner < l.owners) × (page < l.pages) × IsFrame l frame × (length words ≡ l.words)
IsPartOf l (Kernel frame order) = IsFrame l frame × (order ≤ l.order)
IsPartOf l (Kind pageblock kind) = pageblock < pageblock_count l
IsPartOf l (Row block row) = block < l.blocks
IsPartOf l (Auto auto) = Unit {0}

-- the part is an entry of an ordered list: a free block, or a frame on a processor's list
abbrev pub IsListed : Part → Type 0
IsListed (Free class order frame) = Unit {0}
IsListed (Cached cpu pool frame) = Unit {0}
IsListed part = ⊥

-- the state with one part set; a frame for a list goes to its back
abbrev pub with_part : Memory → Part → Memory
with_part s (Free class order frame) = with_areas s (with_back s.free.areas class order frame)
with_part s (Cached cpu pool frame) =
    record s { free = with_cached_list s.free cpu pool (cached_list s.free cpu pool ++ frame ∷ []) }
with_part s (Mapped owner page frame words) = record s { pages = map_page s.pages owner page frame words }
with_part s (Kernel frame order) = with_kernel_order s frame (Some order)
with_part s (Kind pageblock kind) = with_areas s (with_kind s.free.areas pageblock kind)
with_part s (Row block row) = with_block_row s block row
with_part s (Auto auto) = record s { blocks = record s.blocks { auto = auto } }
