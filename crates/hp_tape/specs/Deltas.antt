-- What undoing a delta does, and the state on which it is undone: there, the words of a page are in
-- a buffer of its frame.
use Rattle.std.specs.Prelude.{◌≡◌, ◌<◌, ◌≤◌, ℕ, ◌^◌, length, IfSome, Bool, true, false, not, ◌&&◌, List, [], ◌∷◌, Option, Some, None, ◌==◌, map, nat_lt, replicate, slice_get, slice_index_or, slice_set, unwrap_or, if◌then◌else◌}
use Rattle.std.specs.List.{list_all}
use Rattle.std.specs.Option.{option_map, option_map_or, option_and_then}
use Rattle.hp_tape.specs.declared.deltas.Delta.{Delta}
use Rattle.hp_tape.specs.declared.deltas.Delta.TheVariants.{Link, Unlink, Kind as KindDelta, Kernel as KernelDelta, Map as MapDelta, Swap, Word as WordDelta, LargeWord, Filled, Emptied, Row as RowDelta, Auto as AutoDelta}
use Rattle.hp_tape.specs.declared.deltas.ListId.{ListId}
use Rattle.hp_tape.specs.declared.deltas.ListId.TheVariants.{Area, Cpu}
use Rattle.hp_tape.specs.declared.frame_changes.FrameChange.{FrameChange}
use Rattle.hp_tape.specs.declared.frame_changes.FrameChange.TheVariants.{Mapped}
use Rattle.hp_tape.specs.FrameChanges.{frame_before, frame_after}
use Rattle.hp_units.specs.LayoutParts.{LayoutParts}
use Rattle.hp_units.specs.Arithmetic.{IsFrame, all_frames, pageblock_count}
use Rattle.hp_units.specs.Memory.{FreeAreas, FreeFrames, Pages, Blocks, Memory, free_list, with_free_list, cached_list, with_cached_list, with_kind, with_row, entry_of, with_entry}
use Rattle.hp_units.specs.FreeAreas.{is_on, without}
use Rattle.hp_units.specs.Pages.{page_at, words_at}

-- ---- the state with words by frame

-- the table of pages, and each frame's buffer of words
pub record PageFrames : Type 0 where
  pub table : List (List (Option ℕ))
  pub buffers : List (Option (List ℕ))

pub record FrameView : Type 0 where
  pub free : FreeFrames
  pub pages : PageFrames
  pub kernel : List (Option ℕ)
  pub blocks : Blocks

abbrev pub buffer_of : PageFrames → ℕ → Option (List ℕ)
buffer_of v frame = slice_index_or v.buffers frame None

abbrev pub with_buffer : PageFrames → ℕ → Option (List ℕ) → PageFrames
with_buffer v frame buffer = record v { buffers = slice_set v.buffers frame buffer }

-- words that are all 0 need no buffer
abbrev pub is_blank : List ℕ → Bool
is_blank words = list_all (λ word. word == 0) words

abbrev pub buffer_for : List ℕ → Option (List ℕ)
buffer_for words = if is_blank words then None else Some words

-- a frame has a buffer with its page's words if one of them is not 0; no other frame has a buffer
abbrev pub page_frames_of : LayoutParts → Pages → PageFrames
page_frames_of l ps = record {
  table = ps.table;
  buffers =
      map (λ frame. option_and_then (λ page. option_and_then buffer_for (words_at ps page.0 page.1))
      (page_at ps frame)) (all_frames l);
}

abbrev pub frame_view_of : LayoutParts → Memory → FrameView
frame_view_of l s =
    record { free = s.free; pages = page_frames_of l s.pages; kernel = s.kernel; blocks = s.blocks }

-- ---- the delta of a word

-- the short form if the old and the new word are below 2^32, otherwise the long form
abbrev pub word_delta : (frame index was now : ℕ) → Delta
word_delta frame index was now =
    if nat_lt was (2 ^ 32) && nat_lt now (2 ^ 32)
    then WordDelta index frame was now
    else LargeWord index frame (record { was = was; now = now })

-- ---- undoing a delta, on each part of the state

-- a list with a frame put after another, or at the front; unchanged if the other is not on it
abbrev pub put_behind : Option ℕ → ℕ → List ℕ → List ℕ
put_behind None frame frames = frame ∷ frames
put_behind (Some after) frame [] = []
put_behind (Some after) frame (first ∷ frames) =
    if first == after then first ∷ frame ∷ frames else first ∷ put_behind (Some after) frame frames

abbrev pub areas_undo : Delta → FreeAreas → FreeAreas
areas_undo (Link (Area class order) frame after) a =
    with_free_list a class order (without frame (free_list a class order))
areas_undo (Unlink (Area class order) frame after) a =
    with_free_list a class order (put_behind after frame (free_list a class order))
areas_undo (KindDelta pageblock was now) a = with_kind a pageblock was
areas_undo delta a = a

abbrev pub cached_undo : Delta → FreeFrames → FreeFrames
cached_undo (Link (Cpu pool cpu) frame after) fs =
    with_cached_list fs cpu pool (without frame (cached_list fs cpu pool))
cached_undo (Unlink (Cpu pool cpu) frame after) fs =
    with_cached_list fs cpu pool (put_behind after frame (cached_list fs cpu pool))
cached_undo delta fs = fs

abbrev pub free_undo : Delta → FreeFrames → FreeFrames
free_undo delta fs = cached_undo delta (record fs { areas = areas_undo delta fs.areas })

abbrev pub pages_undo : Delta → PageFrames → PageFrames
pages_undo (MapDelta owner page change) v =
    record v { table = with_entry v.table owner page (frame_before change) }
pages_undo (Swap a b) v = with_buffer (with_buffer v a (buffer_of v b)) b (buffer_of v a)
pages_undo (WordDelta index frame was now) v =
    with_buffer v frame (option_map (λ words. slice_set words index was) (buffer_of v frame))
pages_undo (LargeWord index frame change) v =
    with_buffer v frame (option_map (λ words. slice_set words index change.was) (buffer_of v frame))
pages_undo (Filled index frame now) v = with_buffer v frame None
pages_undo (Emptied frame words) v = with_buffer v frame (Some words)
pages_undo delta v = v

abbrev pub kernel_undo : Delta → List (Option ℕ) → List (Option ℕ)
kernel_undo (KernelDelta frame was now) kernel = slice_set kernel frame was
kernel_undo delta kernel = kernel

abbrev pub blocks_undo : Delta → Blocks → Blocks
blocks_undo (RowDelta change) bs = with_row bs change.block change.before
blocks_undo (AutoDelta was now) bs = record bs { auto = was }
blocks_undo delta bs = bs

abbrev pub undo : Delta → FrameView → FrameView
undo delta v = record {
  free = free_undo delta v.free;
  pages = pages_undo delta v.pages;
  kernel = kernel_undo delta v.kernel;
  blocks = blocks_undo delta v.blocks;
}

-- undoes each delta, latest first
abbrev pub undo_all : {S : Type 0} → (Delta → S → S) → List Delta → S → S
undo_all one [] v = v
undo_all one (delta ∷ deltas) v = one delta (undo_all one deltas v)

abbrev pub back : List Delta → FrameView → FrameView
back deltas v = undo_all undo deltas v

-- ---- a delta fits a state: the state is as the delta left it, as far as the delta records it

-- a frame is next after another on a list, or at its front
abbrev pub is_behind : Option ℕ → ℕ → List ℕ → Bool
is_behind after frame [] = false
is_behind None frame (first ∷ frames) = first == frame
is_behind (Some after) frame (first ∷ frames) =
    if first == after then is_behind None frame frames else is_behind (Some after) frame frames

-- `frame` is on none of `lists`, and may be put on `frames` after `after`, or at the front
abbrev pub may_go_behind : List (List ℕ) → Option ℕ → ℕ → List ℕ → Bool
may_go_behind lists after frame frames =
    list_all (λ other. not (is_on frame other)) lists
    && option_map_or (λ first. is_on first frames) after true

abbrev pub FitsAreas : Delta → FreeAreas → Type 0
FitsAreas (Link (Area class order) frame after) a = is_behind after frame (free_list a class order) ≡ true
FitsAreas (Unlink (Area class order) frame after) a =
    may_go_behind a.lists after frame (free_list a class order) ≡ true
FitsAreas (KindDelta pageblock was now) a = slice_get a.kinds pageblock ≡ Some now
FitsAreas delta a = Unit {0}

abbrev pub FitsCached : Delta → FreeFrames → Type 0
FitsCached (Link (Cpu pool cpu) frame after) fs = is_behind after frame (cached_list fs cpu pool) ≡ true
FitsCached (Unlink (Cpu pool cpu) frame after) fs =
    may_go_behind fs.cached after frame (cached_list fs cpu pool) ≡ true
FitsCached delta fs = Unit {0}

-- the delta fits the free areas and the processors' lists
abbrev pub FitsFree : Delta → FreeFrames → Type 0
FitsFree delta fs = FitsAreas delta fs.areas × FitsCached delta fs

-- the frame of a newly mapped page has no buffer
abbrev pub IsFresh : FrameChange → PageFrames → Type 0
IsFresh (Mapped frame) v = buffer_of v frame ≡ None
IsFresh change v = Unit {0}

-- there is a buffer, and it holds zeros with word `index` set to `value`
abbrev pub HasOneWord : (index value : ℕ) → Option (List ℕ) → Type 0
HasOneWord index value None = ⊥
HasOneWord index value (Some words) = words ≡ slice_set (replicate (length words) 0) index value

abbrev pub FitsPages : Delta → PageFrames → Type 0
FitsPages (MapDelta owner page change) v =
    (entry_of v.table owner page ≡ frame_after change) × IsFresh change v
FitsPages (WordDelta index frame was now) v =
    slice_get (unwrap_or (buffer_of v frame) []) index ≡ Some now
FitsPages (LargeWord index frame change) v =
    slice_get (unwrap_or (buffer_of v frame) []) index ≡ Some change.now
FitsPages (Filled index frame now) v = HasOneWord index now (buffer_of v frame)
FitsPages (Emptied frame words) v = buffer_of v frame ≡ None
FitsPages delta v = Unit {0}

abbrev pub FitsKernel : Delta → List (Option ℕ) → Type 0
FitsKernel (KernelDelta frame was now) kernel = slice_get kernel frame ≡ Some now
FitsKernel delta kernel = Unit {0}

abbrev pub FitsBlocks : Delta → Blocks → Type 0
FitsBlocks (RowDelta change) bs = slice_get bs.rows change.block ≡ Some change.after
FitsBlocks (AutoDelta was now) bs = bs.auto ≡ now
FitsBlocks delta bs = Unit {0}

pub record Fits (delta : Delta) (v : FrameView) : Type 0 where
  pub areas : FitsAreas delta v.free.areas
  pub cached : FitsCached delta v.free
  pub pages : FitsPages delta v.pages
  pub kernel : FitsKernel delta v.kernel
  pub blocks : FitsBlocks delta v.blocks

-- each delta fits the state in which it is undone, latest first
abbrev pub AllFit : {S : Type 0} → (Delta → S → Type 0) → (Delta → S → S) → List Delta → S → Type 0
AllFit Fit one [] v = Unit {0}
AllFit Fit one (delta ∷ deltas) v = AllFit Fit one deltas v × Fit delta (undo_all one deltas v)

-- the numbers of a list are within the layout
abbrev pub IsListOf : LayoutParts → ListId → Type 0
IsListOf l (Area class order) = order ≤ l.order
IsListOf l (Cpu pool cpu) = cpu < l.cpus

-- what a delta changes is within the layout: a list, frames, a pageblock, a page, a word or a
-- memory block. A buffer that it holds has the layout's number of words. Nothing is required of
-- `after`
abbrev pub IsDeltaOf : LayoutParts → Delta → Type 0
IsDeltaOf l (Link list frame after) = IsListOf l list × IsFrame l frame
IsDeltaOf l (Unlink list frame after) = IsListOf l list × IsFrame l frame
IsDeltaOf l (KindDelta pageblock was now) = pageblock < pageblock_count l
IsDeltaOf l (KernelDelta frame was now) = IsFrame l frame
IsDeltaOf l (MapDelta owner page change) =
    (owner < l.owners) × (page < l.pages) × IfSome (frame_before change) (IsFrame l)
    × IfSome (frame_after change) (IsFrame l)
IsDeltaOf l (Swap a b) = IsFrame l a × IsFrame l b
IsDeltaOf l (WordDelta index frame was now) = IsFrame l frame × (index < l.words)
IsDeltaOf l (LargeWord index frame change) = IsFrame l frame × (index < l.words)
IsDeltaOf l (Filled index frame now) = IsFrame l frame × (index < l.words)
IsDeltaOf l (Emptied frame words) = IsFrame l frame × (length words ≡ l.words)
IsDeltaOf l (RowDelta change) = change.block < l.blocks
IsDeltaOf l (AutoDelta was now) = Unit {0}

-- ---- to which part of the state a delta belongs

-- the delta is of the free areas: their lists, and the pageblocks' kinds
abbrev pub IsOfAreas : Delta → Type 0
IsOfAreas (Link (Area class order) frame after) = Unit {0}
IsOfAreas (Unlink (Area class order) frame after) = Unit {0}
IsOfAreas (KindDelta pageblock was now) = Unit {0}
IsOfAreas delta = ⊥

-- the delta is of the free areas or the processors' lists: any list, and the pageblocks' kinds
abbrev pub IsOfFree : Delta → Type 0
IsOfFree (Link list frame after) = Unit {0}
IsOfFree (Unlink list frame after) = Unit {0}
IsOfFree (KindDelta pageblock was now) = Unit {0}
IsOfFree delta = ⊥

-- the delta is of the owners' pages
abbrev pub IsOfPages : Delta → Type 0
IsOfPages (MapDelta owner page change) = Unit {0}
IsOfPages (Swap a b) = Unit {0}
IsOfPages (WordDelta index frame was now) = Unit {0}
IsOfPages (LargeWord index frame change) = Unit {0}
IsOfPages (Filled index frame now) = Unit {0}
IsOfPages (Emptied frame words) = Unit {0}
IsOfPages delta = ⊥

-- the delta is of the memory blocks: a row, or the setting for added blocks
abbrev pub IsOfBlocks : Delta → Type 0
IsOfBlocks (RowDelta change) = Unit {0}
IsOfBlocks (AutoDelta was now) = Unit {0}
IsOfBlocks delta = ⊥
