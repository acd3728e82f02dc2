-- Marks. A walk over a state finds the place of each frame: step by step it sets the places of some
-- frames, such as those on a processor's lists. A mark is what one such step does to the places.
use Rattle.std.specs.Prelude.{ℕ, zero, suc, ◌≡◌, ◌+◌, ◌*◌, ◌^◌, ◌==◌, List, Option, Some, None, option_map, slice_get, if◌then◌else◌}
use Rattle.hp_units.specs.Arithmetic.{block_of, pageblock_of, pageblock_size}
use Rattle.hp_units.specs.FreeAreas.{is_on}
use Rattle.hp_units.specs.LayoutParts.{LayoutParts}
use Rattle.hp_units.specs.Memory.{FreeFrames, Memory, Pages, cached_list, kernel_order}
use Rattle.hp_map.specs.Names.{NuPool, NmPool, MmPool, Row, Kind, State, AbsentState, OfflineState, OnlineState, GoingState}
use Rattle.hp_units.specs.Pages.{frame_at, holds}
use Rattle.hp_map.specs.declared.places.Place.{Place}
use Rattle.hp_map.specs.declared.places.Place.TheVariants.{Absent, Offline, Free, Isolated, Kernel, Cached, Page}

-- a change of places: the new place of a frame, given its number and its old place
abbrev pub Mark : Type 0
Mark = ℕ → Place → Place

-- the mark was applied to each place
abbrev pub AreMarked : Mark → (old new : List Place) → Type 0
AreMarked mark old new = (frame : ℕ) → slice_get new frame ≡ option_map (mark frame) (slice_get old frame)

-- the marks of the numbers below n, one after another
unfoldable pub marks_below : (ℕ → Mark) → ℕ → Mark
marks_below marks zero frame was = was
marks_below marks (suc n) frame was = marks n frame (marks_below marks n frame was)

-- gives one frame this place
abbrev pub at_frame : ℕ → Place → Mark
at_frame marked place frame was = if marked == frame then place else was

-- gives each frame of a list this place
abbrev pub on_list : List ℕ → Place → Mark
on_list frames place frame was = if is_on frame frames then place else was

-- marks the frames on a processor's lists
abbrev pub on_cpu : FreeFrames → (cpu : ℕ) → Mark
on_cpu fs cpu frame was =
    on_list (cached_list fs cpu MmPool) (Cached cpu) frame (on_list (cached_list fs cpu NmPool) (Cached cpu)
    frame (on_list (cached_list fs cpu NuPool) (Cached cpu) frame was))

-- marks the frame that holds a page, if one does
abbrev pub on_entry : (owner : ℕ) → Option ℕ → Mark
on_entry owner entry frame was = if holds frame entry then Page owner else was

-- marks the frame that holds this page of an owner
abbrev pub on_page : Pages → (owner page : ℕ) → Mark
on_page ps owner page = on_entry owner (frame_at ps owner page)

-- marks the frames that hold an owner's pages
abbrev pub on_owner : LayoutParts → Pages → (owner : ℕ) → Mark
on_owner l ps owner = marks_below (on_page ps owner) l.pages

-- gives this place to `count` frames, from `first` on
abbrev pub on_frames : (first count : ℕ) → Place → Mark
on_frames first count place = marks_below (λ offset. at_frame (first + offset) place) count

-- marks the frames of a kernel's block of this order that starts at `first`
abbrev pub on_block : (first : ℕ) → Option ℕ → Mark
on_block first None = λ frame was. was
on_block first (Some order) = on_frames first (2 ^ order) Kernel

-- marks the frames of the kernel's block that starts at `first`, if one does
abbrev pub on_kernel : Memory → (first : ℕ) → Mark
on_kernel s first = on_block first (kernel_order s first)

-- the place of a frame that is not in use, by the kind of its pageblock
abbrev pub free_in : Option Kind → Place
free_in None = Free
free_in (Some kind) = if kind.isolated then Isolated else Free

-- the place of a frame that is not in use, by the state of its memory block and the kind of its
-- pageblock
abbrev pub unused_at : State → Option Kind → Place
unused_at AbsentState kind = Absent
unused_at OfflineState kind = Offline
unused_at OnlineState kind = free_in kind
unused_at GoingState kind = free_in kind

-- the place of a frame that is not in use, by the row of its memory block; a block without a row is
-- offline
abbrev pub unused_in : Option Row → Option Kind → Place
unused_in None kind = Offline
unused_in (Some row) kind = unused_at row.state kind

-- the place of this frame, if it is not in use
abbrev pub unused_place : LayoutParts → Memory → (frame : ℕ) → Place
unused_place l s frame =
    unused_in (slice_get s.blocks.rows (block_of l frame))
    (slice_get s.free.areas.kinds (pageblock_of l frame))

-- marks the frames of a pageblock as if none were in use
abbrev pub on_unused : LayoutParts → Memory → (pageblock : ℕ) → Mark
on_unused l s pageblock =
    on_frames (pageblock * pageblock_size l) (pageblock_size l)
    (unused_place l s (pageblock * pageblock_size l))
