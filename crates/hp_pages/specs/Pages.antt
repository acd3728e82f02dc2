-- The value of the layer of pages in contracts, and what its calls do.
use Rattle.std.specs.Prelude.{◌≡◌, ℕ, ◌≤◌, ◌==◌, ◌&&◌, Bool, false, not, List, [], Option, Some, None, IfSome, is_some, length, map, option_map, slice_index, slice_index_or, slice_set, unwrap_or, if◌then◌else◌}
use Rattle.std.specs.List.{AllByRecursion}
use Rattle.std.specs.Option.{option_and_then, option_map_or}
use Rattle.hp_units.specs.LayoutParts.{LayoutParts}
use Rattle.hp_units.specs.Arithmetic.{IsFrame, frame_count}
use Rattle.hp_units.specs.Memory.{Pages, entry_of, with_entry}
use Rattle.hp_units.specs.Pages.{fresh_words, page_from}
use Rattle.hp_tape.specs.declared.deltas.Delta.{Delta}
use Rattle.hp_tape.specs.declared.deltas.Delta.TheVariants.{Emptied}
use Rattle.hp_tape.specs.Deltas.{PageFrames, buffer_for, buffer_of, is_blank, with_buffer, word_delta}
use Rattle.hp_pages.specs.declared.pages.PreparedWrite.{PreparedWrite}
use Rattle.hp_pages.specs.declared.pages.PreparedWrite.TheVariants.{Change, Fill}
use Rattle.hp_pages.specs.Places.{TableValue, holders}

-- the layout, and the pages with their words by frame
pub record PagesValue : Type 0 where
  pub layout : LayoutParts
  pub pages : PageFrames

-- the numbers are within the layout; every call keeps this, even the undoing of a delta
pub record ArePageFramesOf (l : LayoutParts) (v : PageFrames) : Type 0 where
  pub owners : length v.table ≡ l.owners
  pub pages : AllByRecursion (λ row. length row ≡ l.pages) v.table
  pub mapped : (owner page : ℕ) → IfSome (entry_of v.table owner page) (IsFrame l)
  pub frames : length v.buffers ≡ frame_count l
  pub words : (frame : ℕ) → IfSome (buffer_of v frame) (λ words. length words ≡ l.words)

-- a buffer is needed: its frame holds exactly one page, and one of its words is not 0
pub record IsNeeded (v : PageFrames) (frame : ℕ) (words : List ℕ) : Type 0 where
  pub held : holders v.table frame ≡ 1
  pub some : is_blank words ≡ false

-- a frame holds at most one page, and has a buffer only if a word of its page is not 0; every call
-- keeps this, except the undoing of a delta
pub record AreSettled (v : PageFrames) : Type 0 where
  pub once : (frame : ℕ) → holders v.table frame ≤ 1
  pub buffers : (frame : ℕ) → IfSome (buffer_of v frame) (IsNeeded v frame)

-- the table, the buffers and the one page of zeros, as the layer stores them, fit the layout
pub record AreLayerOf (l : LayoutParts) (t : TableValue) (buffers : List (Option (List ℕ)))
    (words_of_none : List ℕ) : Type 0 where
  pub frames : t.frames ≡ frame_count l
  pub pages : t.pages ≡ l.pages
  pub owners : length t.rows ≡ l.owners
  pub buffers_of : length buffers ≡ frame_count l
  pub words : (frame : ℕ) → IfSome (slice_index_or buffers frame None) (λ words. length words ≡ l.words)
  pub zeros : words_of_none ≡ fresh_words l
  pub few_words : l.words ≤ 512

-- ---- what the calls return and do

-- the words in a frame: those of its buffer, or zeros without one
abbrev pub words_in : LayoutParts → PageFrames → (frame : ℕ) → List ℕ
words_in l v frame = unwrap_or (buffer_of v frame) (fresh_words l)

-- the words of a page: those in its frame
abbrev pub words_of : LayoutParts → PageFrames → (owner page : ℕ) → Option (List ℕ)
words_of l v owner page = option_map (words_in l v) (entry_of v.table owner page)

-- the words of an owner's pages: those in their frames
abbrev pub words_row : LayoutParts → PageFrames → (owner : ℕ) → List (Option (List ℕ))
words_row l v owner = map (option_map (words_in l v)) (slice_index_or v.table owner [])

-- the pages of a frame view: each has the words in its frame
abbrev pub pages_of : LayoutParts → PageFrames → Pages
pages_of l v = record { table = v.table; contents = map (λ row. map (option_map (words_in l v)) row) v.table }

-- a page is mapped to a frame
abbrev pub map_frame : PageFrames → (owner page frame : ℕ) → PageFrames
map_frame v owner page frame = record v { table = with_entry v.table owner page (Some frame) }

-- a page is unmapped from its frame, and the frame's buffer is dropped
abbrev pub unmap_from : PageFrames → (owner page frame : ℕ) → PageFrames
unmap_from v owner page frame =
    record { table = with_entry v.table owner page None; buffers = slice_set v.buffers frame None }

-- a page is unmapped from whichever frame holds it
abbrev pub unmap_frame : PageFrames → (owner page : ℕ) → PageFrames
unmap_frame v owner page = option_map_or (unmap_from v owner page) (entry_of v.table owner page) v

-- one word changes in a frame; afterwards the frame has a buffer only if one of its words is not 0
abbrev pub write_at : LayoutParts → PageFrames → (frame index value : ℕ) → PageFrames
write_at l v frame index value = with_buffer v frame (buffer_for (slice_set (words_in l v frame) index value))

-- one word changes in a page's frame
abbrev pub write_frame : LayoutParts → PageFrames → (owner page index value : ℕ) → PageFrames
write_frame l v owner page index value =
    option_map_or (λ frame. write_at l v frame index value) (entry_of v.table owner page) v

-- the delta of a word that changes in a frame
abbrev pub change_at : LayoutParts → PageFrames → (frame index value : ℕ) → Delta
change_at l v frame index value =
    word_delta frame index (slice_index (words_in l v frame) index) value

-- a write of this value needs a buffer: the frame has none, and the value is not 0
abbrev pub needs_buffer : Option (List ℕ) → (value : ℕ) → Bool
needs_buffer buffer value = not (is_some buffer) && not (value == 0)

-- what a write of a word in a frame needs
abbrev pub prepared_at : LayoutParts → PageFrames → (index value frame : ℕ) → PreparedWrite
prepared_at l v index value frame =
    if needs_buffer (buffer_of v frame) value
    then Fill (fresh_words l)
    else Change (change_at l v frame index value)

-- what a write of a word in a page's frame needs
abbrev pub prepared_for : LayoutParts → PageFrames → (owner page index value : ℕ) → PreparedWrite
prepared_for l v owner page index value =
    prepared_at l v index value (unwrap_or (entry_of v.table owner page) 0)

-- the buffers of two frames are swapped
abbrev pub swap_buffers : PageFrames → (a b : ℕ) → PageFrames
swap_buffers v a b = with_buffer (with_buffer v a (buffer_of v b)) b (buffer_of v a)

-- a page moves from one frame to another (Linux, memory hotplug: migration)
abbrev pub move_entry : PageFrames → (owner page from to : ℕ) → PageFrames
move_entry v owner page from to =
    record (swap_buffers v from to) { table = with_entry v.table owner page (Some to) }

-- the page at a frame moves to another frame
abbrev pub move_frame : PageFrames → (from to : ℕ) → PageFrames
move_frame v from to = option_map_or (λ page. move_entry v page.0 page.1 from to) (page_from 0 v.table from) v

-- the delta holds no buffer
abbrev pub IsInPlace : Delta → Type 0
IsInPlace (Emptied frame words) = ⊥
IsInPlace delta = Unit {0}
