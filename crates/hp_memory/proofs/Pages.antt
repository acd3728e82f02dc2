-- Tables of pages that are copied entry by entry.
use Rattle.std.proofs.Common.{ℕ, ◌≡◌, ◌+◌, ◌<◌, ◌≤◌, List, [], Option, Some, None, length, get_or, set, map, replicate, sym, ◌∙◌, ap, arith}
use Rattle.std.specs.Option.{option_and_then, option_map}
use Rattle.std.proofs.lemmas.List.{get_or-map, get_or-set_same, length-map, length-set, set-get_or, set-set}
use Rattle.hp_units.specs.LayoutParts.{LayoutParts, IsLayout}
use Rattle.hp_units.specs.Arithmetic.{IsFrame, frame_count}
use Rattle.hp_units.specs.Boot.{empty_pages}
use Rattle.hp_units.specs.Memory.{Memory, Pages, with_entry}
use Rattle.hp_units.specs.Pages.{frame_at, page_from}
use Rattle.hp_units.specs.Placement.{IsWellPlaced}
use Rattle.hp_tape.specs.Deltas.{PageFrames, buffer_of, page_frames_of, with_buffer}
use Rattle.hp_units.proofs.Placed.{page-in_use}
use Rattle.hp_pages.specs.Pages.{ArePageFramesOf, PagesValue, pages_of, words_in, words_of, words_row}
use Rattle.hp_pages.proofs.PageParts.{no_pages_is}
use Rattle.hp_pages.proofs.FrameViews.{buffer_by, buffer_is, page_buffer}
use Rattle.hp_memory.specs.Tables.{AreCopied}
use Rattle.hp_memory.proofs.Tables.{copied-all, copied-next, copied-none}
use Rattle.hp_pages.proofs.Tables.{row_length}

-- ---- one row of a table

-- a row with one entry more, in its table
pub record IsFurther {A : Type 0} (init new : List (List (Option A))) (owner number : ℕ)
    (wanted : List (Option A)) : Type 0 where
  pub row : AreCopied None None number wanted (get_or new owner [])
  pub table : new ≡ set init owner (get_or new owner [])

pub entry-more : {A : Type 0} {new : List (List (Option A))} (init now : List (List (Option A)))
    (owner page : ℕ) (wanted : List (Option A))
    → owner < length init → page < length wanted → IsFurther init now owner page wanted
    → new ≡ with_entry now owner page (get_or wanted page None) → IsFurther init new owner (page + 1) wanted
entry-more {A = A} {new = new} init now owner page wanted inside low f e =
    let row : List (Option A) = get_or now owner [] in
    let next : List (Option A) = set row page (get_or wanted page None) in
    let size : owner < length now = rw (ap length f.table ∙ length-set init owner row) inside in
    let here : get_or new owner [] ≡ next = rw (e, get_or-set_same now owner next [] size) in
    record {
      row = copied-next low f.row here;
      table =
          e ∙ (ap (λ (t : List (List (Option A))). set t owner next) f.table
          ∙ (set-set init owner row next ∙ ap (λ (r : List (Option A)). set init owner r) (sym here)));
    }

-- an empty row
pub row-none : {A : Type 0} {pages : ℕ} (init : List (List (Option A))) (owner : ℕ) (wanted : List (Option A))
    → get_or init owner [] ≡ replicate pages None → length wanted ≡ pages
    → IsFurther init init owner 0 wanted
row-none {pages = pages} init owner wanted none size =
    record {
      row = copied-none None None pages wanted (get_or init owner []) none size;
      table = sym (set-get_or init owner []);
    }

-- a whole row
pub row-all : {A : Type 0} (init new : List (List (Option A))) (owner number : ℕ) (wanted : List (Option A))
    → length wanted ≤ number → IsFurther init new owner number wanted → new ≡ set init owner wanted
row-all {A = A} init new owner number wanted all f = rw (f.table, copied-all all f.row)

-- ---- how long rows are

pub image-row : {l : LayoutParts} {s : Memory} (owner : ℕ) → IsWellPlaced l s → owner < l.owners
    → length (get_or s.pages.table owner []) ≡ l.pages
image-row {l = l} {s = s} owner p low =
    row_length l.pages s.pages.table owner p.in_order.shape.pages
    (omega (arith, low, p.in_order.shape.owners))

-- ---- the layer of pages

-- pages of the same tables
pub same_frames : (v w : PageFrames) → v.table ≡ w.table → v.buffers ≡ w.buffers → v ≡ w
same_frames v w table buffers = rw (table, buffers)

pub same_pages : (v w : PagesValue) → v.layout ≡ w.layout → v.pages ≡ w.pages → v ≡ w
same_pages v w layout pages = rw (layout, pages)

-- the frame of a page is one of the layout
pub page-frame : {l : LayoutParts} {s : Memory} (owner page frame : ℕ) → IsLayout l → IsWellPlaced l s
    → frame_at s.pages owner page ≡ Some frame → IsFrame l frame
page-frame {l = l} {s = s} owner page frame limits p is =
    let block = page-in_use l s owner page frame limits p is in omega (arith, block.within)

-- a frame whose page has no words, and one whose page has some
pub buffer-none : {frame : ℕ} (l : LayoutParts) (ps : Pages) (v : PagesValue) → IsFrame l frame
    → buffer_of v.pages frame ≡ None → buffer_by ps frame ≡ None
    → v ≡ record v { pages = with_buffer v.pages frame (buffer_of (page_frames_of l ps) frame) }
buffer-none {frame = frame} l ps v inside none e =
    ap (λ (b : List (Option (List ℕ))).
    record { layout = v.layout; pages = record { table = v.pages.table; buffers = b } })
    (sym (rw (buffer_is l ps frame inside ∙ (e ∙ sym none)) (set-get_or v.pages.buffers frame None)))

pub buffer-some : {frame : ℕ} (l : LayoutParts) (ps : Pages) (v new : PagesValue) (words : List ℕ)
    → IsFrame l frame → buffer_by ps frame ≡ Some words → new.layout ≡ v.layout
    → new.pages ≡ with_buffer v.pages frame (Some words)
    → new ≡ record v { pages = with_buffer v.pages frame (buffer_of (page_frames_of l ps) frame) }
buffer-some {frame = frame} l ps v new words inside e layout is =
    same_pages new (record v { pages = with_buffer v.pages frame (buffer_of (page_frames_of l ps) frame) })
    layout
    (is ∙ ap (λ (b : Option (List ℕ)). with_buffer v.pages frame b) (sym (buffer_is l ps frame inside ∙ e)))

-- the page of a frame, and its words
pub words-by : {table : List (List (Option ℕ))} {found : Option (ℕ × ℕ)} (ps : Pages) (frame : ℕ)
    → table ≡ ps.table → found ≡ page_from 0 table frame
    → buffer_by ps frame ≡ option_and_then (page_buffer ps) found
words-by ps frame same is = grind arith

-- no buffer is there yet
pub no-buffers : (l : LayoutParts) (wanted : List (Option (List ℕ))) (now : PageFrames)
    → length wanted ≡ frame_count l → now.buffers ≡ (page_frames_of l (empty_pages l)).buffers
    → AreCopied None None 0 wanted now.buffers
no-buffers l wanted now size e =
    copied-none None None (frame_count l) wanted now.buffers
    (e ∙ ap (λ (v : PageFrames). v.buffers) (no_pages_is l)) size

-- ---- the pages of a state

-- pages of the same tables
pub same_tables : (v w : Pages) → v.table ≡ w.table → v.contents ≡ w.contents → v ≡ w
same_tables v w table contents = rw (table, contents)

-- how many rows and how many pages there are
pub contents-count : (l : LayoutParts) (v : PageFrames) → length (pages_of l v).contents ≡ length v.table
contents-count l v = length-map v.table (λ row. map (option_map (words_in l v)) row)

pub row-of : {l : LayoutParts} {v : PageFrames} (owner : ℕ) → ArePageFramesOf l v → owner < l.owners
    → length (get_or v.table owner []) ≡ l.pages
row-of {l = l} {v = v} owner are low =
    row_length l.pages v.table owner are.pages (omega (arith, low, are.owners))

pub row-words : {l : LayoutParts} {v : PageFrames} (owner : ℕ) → ArePageFramesOf l v → owner < l.owners
    → length (words_row l v owner) ≡ l.pages
row-words {l = l} {v = v} owner are low = grind (arith, length-map, row-of)

-- the words of a page, by its row
pub words-entry : {new : List (List (Option (List ℕ)))} (l : LayoutParts) (v : PageFrames)
    (now : List (List (Option (List ℕ)))) (owner page : ℕ)
    → page < length (get_or v.table owner []) → new ≡ with_entry now owner page (words_of l v owner page)
    → new ≡ with_entry now owner page (get_or (words_row l v owner) page None)
words-entry l v now owner page low e = grind (arith, get_or-map)
