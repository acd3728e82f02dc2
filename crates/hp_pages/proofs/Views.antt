-- The calls of the layer of pages and the definitions of the rules: the frame view of the pages
-- after a rule is what the call makes of the frame view before, if no frame holds two pages.
use Rattle.std.proofs.Common.{◌≡◌, ℕ, ◌<◌, ◌≤◌, true, false, List, [], length, set, Option, Some, None, refl, sym, ap, ◌∙◌, arith}
use Rattle.std.specs.Prelude.{IfSome, is_some, slice_index, unwrap_or}
use Rattle.std.specs.Option.{option_and_then}
use Rattle.std.proofs.lemmas.Bool.{cases_lt, cases_Bool}
use Rattle.std.proofs.lemmas.List.{set-get_or}
use Rattle.std.proofs.lemmas.List.FromFn.{length-map-range_with_len}
use Rattle.hp_units.specs.LayoutParts.{LayoutParts}
use Rattle.hp_units.specs.Arithmetic.{IsFrame, frame_count}
use Rattle.hp_units.specs.InLayout.{ArePagesOf}
use Rattle.hp_units.specs.Memory.{Memory, Pages, entry_of, with_entry}
use Rattle.hp_units.specs.Pages.{frame_at, map_page, move_page, page_at, read_word, unmap_page, words_at, write_word}
use Rattle.hp_units.specs.Placement.{IsPage, IsWellPlaced}
use Rattle.hp_tape.specs.Deltas.{PageFrames, buffer_for, buffer_of, is_blank, page_frames_of}
use Rattle.hp_pages.specs.Pages.{ArePageFramesOf, AreSettled, IsNeeded, map_frame, move_frame, unmap_frame, words_in, words_of, write_frame}
use Rattle.hp_pages.specs.Places.{holders}
use Rattle.hp_pages.proofs.Blanks.{none-needed, some-needed, buffer-words}
use Rattle.hp_pages.proofs.Places.{IsIn, entry-other, entry-same, entry_in, holders-entry, holds_some, only_page}
use Rattle.hp_pages.proofs.PageParts.{same_frames}
use Rattle.hp_pages.proofs.Tables.{page_in}
use Rattle.hp_pages.proofs.FrameViews.{entry_at, first_none, not_held, held_self, held_le, first_kept, page_buffer, buffer_by, buffer_is, no_buffer_past, one_changed, two_changed, buffer_kept}

-- ---- the rules

-- what the rules and the calls have in common: numbers of the layout, no frame holds two pages, and
-- a page has words exactly if it has a frame
pub record AreOnce (l : LayoutParts) (ps : Pages) : Type 0 where
  pub pages_of : ArePagesOf l ps
  pub once : (frame : ℕ) → holders ps.table frame ≤ 1
  pub words : (owner page : ℕ) → is_some (words_at ps owner page) ≡ is_some (frame_at ps owner page)

-- the words of a mapped page
pub record HasWords (l : LayoutParts) (ps : Pages) (owner page : ℕ) : Type 0 where
  pub words : List ℕ
  pub are : words_at ps owner page ≡ Some words
  pub size : length words ≡ l.words

mapped_words : (l : LayoutParts) (ps : Pages) (owner page frame : ℕ) → AreOnce l ps
    → frame_at ps owner page ≡ Some frame → HasWords l ps owner page
mapped_words l ps owner page frame once mapped = grind arith

in_table : (l : LayoutParts) (ps : Pages) (owner page : ℕ) → AreOnce l ps → owner < l.owners → page < l.pages
    → IsIn ps.table owner page
in_table l ps owner page are in_owners in_pages =
    page_in l.pages ps.table owner page are.pages_of.pages (omega (arith, are.pages_of.owners)) in_pages

in_contents : (l : LayoutParts) (ps : Pages) (owner page : ℕ) → AreOnce l ps → owner < l.owners
    → page < l.pages → IsIn ps.contents owner page
in_contents l ps owner page are in_owners in_pages =
    page_in l.pages ps.contents owner page are.pages_of.content_pages
    (omega (arith, are.pages_of.content_owners)) in_pages

-- the words of another page
other_words : (ps : Pages) (owner page : ℕ) (words : Option (List ℕ)) (f : ℕ) (found : ℕ × ℕ)
    → IsIn ps.contents owner page → (entry_of ps.table owner page ≡ Some f → ⊥)
    → page_at ps f ≡ Some found
    → entry_of (with_entry ps.contents owner page words) found.0 found.1 ≡ words_at ps found.0 found.1
other_words ps owner page words f found is_in apart first = grind (arith, entry-other, entry_at)

-- a page is mapped, with words that are all 0
pub view-map_page : (l : LayoutParts) (ps : Pages) (owner page frame : ℕ) (words : List ℕ) → AreOnce l ps
    → owner < l.owners → page < l.pages → IsFrame l frame
    → frame_at ps owner page ≡ None → holders ps.table frame ≡ 0 → is_blank words ≡ true
    → page_frames_of l (map_page ps owner page frame words) ≡ map_frame (page_frames_of l ps) owner page frame
view-map_page l ps owner page frame words are in_owners in_pages in_frames unmapped free blank =
    let is_in = in_table l ps owner page are in_owners in_pages in
    let has_words = in_contents l ps owner page are in_owners in_pages in
    let new = map_page ps owner page frame words in
    let counts = holders-entry ps.table owner page (Some frame) frame is_in.in_owners is_in.in_pages in
    let unmapped_from : (f : ℕ) → entry_of ps.table owner page ≡ Some f → ⊥ =
    λ f e. let n : None ≡ Some f = sym unmapped ∙ e in
    cc in
    let first : page_at new frame ≡ Some (owner, page) =
    only_page new.table owner page frame (omega (arith, counts, held_le frame (Some frame), free))
    (entry-same ps.table owner page (Some frame) is_in) in
    let before : buffer_of (page_frames_of l ps) frame ≡ None = grind (arith, buffer_is, first_none) in
    same_frames _ _ _ _ refl (one_changed (buffer_by ps) (buffer_by new) (frame_count l) frame None in_frames
    (ap (option_and_then (page_buffer new)) first
    ∙ (ap (option_and_then buffer_for) (entry-same ps.contents owner page (Some words) has_words)
    ∙ none-needed words blank))
    (λ f lt other. buffer_kept ps new f
    (first_kept ps.table owner page (Some frame) f is_in (are.once f) (unmapped_from f)
    (λ e. let n : frame ≡ f = cc in other (sym n)))
    (λ found e. other_words ps owner page (Some words) f found has_words (unmapped_from f) e))
    ∙ (ap (λ (b : Option (List ℕ)). set (page_frames_of l ps).buffers frame b) (sym before)
    ∙ set-get_or (page_frames_of l ps).buffers frame None))

-- the frame of a page that is mapped
frame_in : (l : LayoutParts) (ps : Pages) (owner page frame : ℕ) → AreOnce l ps
    → frame_at ps owner page ≡ Some frame → IsFrame l frame
frame_in l ps owner page frame are mapped = grind arith

-- a page has only one frame
apart_from : (ps : Pages) (owner page frame : ℕ) → frame_at ps owner page ≡ Some frame → (f : ℕ)
    → (f ≡ frame → ⊥) → entry_of ps.table owner page ≡ Some f → ⊥
apart_from ps owner page frame mapped f other e = grind arith

-- a page is unmapped
pub view-unmap_page : (l : LayoutParts) (ps : Pages) (owner page frame : ℕ) → AreOnce l ps → owner < l.owners
    → page < l.pages → frame_at ps owner page ≡ Some frame
    → page_frames_of l (unmap_page ps owner page) ≡ unmap_frame (page_frames_of l ps) owner page
view-unmap_page l ps owner page frame are in_owners in_pages mapped =
    let is_in = in_table l ps owner page are in_owners in_pages in
    let has_words = in_contents l ps owner page are in_owners in_pages in
    let new = unmap_page ps owner page in
    let counts = rw mapped at (holders-entry ps.table owner page None frame is_in.in_owners is_in.in_pages) in
    let gone : holders new.table frame ≡ 0 = omega (arith, counts, held_self frame, are.once frame) in
    grind (arith, same_frames, one_changed, first_none, buffer_kept, first_kept, apart_from, other_words)

-- the words in the frame of a mapped page
frame_words : (l : LayoutParts) (ps : Pages) (owner page frame : ℕ) (are : AreOnce l ps)
    (mapped : frame_at ps owner page ≡ Some frame)
    → words_in l (page_frames_of l ps) frame ≡ (mapped_words l ps owner page frame are mapped).words
frame_words l ps owner page frame are mapped = grind (arith, mapped_words, only_page, buffer_is, buffer-words)

-- one word is written
pub view-write_word : (l : LayoutParts) (ps : Pages) (owner page frame index value : ℕ) → AreOnce l ps
    → owner < l.owners → page < l.pages → frame_at ps owner page ≡ Some frame
    → page_frames_of l (write_word ps owner page index value)
    ≡ write_frame l (page_frames_of l ps) owner page index value
view-write_word l ps owner page frame index value are in_owners in_pages mapped =
    let has_words = in_contents l ps owner page are in_owners in_pages in
    let first = only_page ps.table owner page frame (are.once frame) mapped in
    let before = mapped_words l ps owner page frame are mapped in
    grind (arith, frame_words, same_frames, one_changed, entry-same, buffer_kept, other_words, apart_from)

-- a page moves
pub view-move_page : (l : LayoutParts) (ps : Pages) (owner page from to : ℕ) → AreOnce l ps → IsFrame l to
    → page_at ps from ≡ Some (owner, page) → holders ps.table to ≡ 0
    → page_frames_of l (move_page ps from to) ≡ move_frame (page_frames_of l ps) from to
view-move_page l ps owner page from to are to_in first free =
    let mapped : frame_at ps owner page ≡ Some from = entry_at ps.table from (owner, page) first in
    let from_in = frame_in l ps owner page from are mapped in
    let is_in = entry_in ps.table owner page from mapped in
    let new : Pages = record { table = with_entry ps.table owner page (Some to); contents = ps.contents } in
    let view = page_frames_of l ps in
    let to_counts =
    rw mapped at (holders-entry ps.table owner page (Some to) to is_in.in_owners is_in.in_pages) in
    let from_counts =
    rw mapped at (holders-entry ps.table owner page (Some to) from is_in.in_owners is_in.in_pages) in
    let gone : holders new.table from ≡ 0 = grind (arith, held_self, not_held) in
    let arrived : page_at new to ≡ Some (owner, page) = cc (only_page new.table owner page to (omega (
      arith,
      to_counts,
      held_le to (Some to),
      free,
    )) (entry-same ps.table owner page (Some to) is_in)) in
    let from_buffer : buffer_of view from ≡ page_buffer ps (owner, page) = cc (buffer_is l ps from from_in) in
    let to_buffer : buffer_of view to ≡ None = rw (buffer_is l ps to to_in, first_none ps.table to free) in
    grind (arith, same_frames, two_changed, first_none, buffer_kept, first_kept, apart_from)

-- one word is read, and all words of a page
pub view-words_at : (l : LayoutParts) (ps : Pages) (owner page frame : ℕ) → AreOnce l ps
    → frame_at ps owner page ≡ Some frame
    → words_of l (page_frames_of l ps) owner page ≡ words_at ps owner page
view-words_at l ps owner page frame are mapped =
    rw (mapped, frame_words l ps owner page frame are mapped)
    (rw (← (mapped_words l ps owner page frame are mapped).are))

pub view-read_word : (l : LayoutParts) (ps : Pages) (owner page frame index : ℕ) → AreOnce l ps
    → frame_at ps owner page ≡ Some frame
    → slice_index (unwrap_or (words_of l (page_frames_of l ps) owner page) []) index
    ≡ read_word ps owner page index
view-read_word l ps owner page frame index are mapped = rw (view-words_at l ps owner page frame are mapped)

-- ---- the conditions of the calls

-- the numbers of a frame view are those of the layout
kept_words : (P : List ℕ → Type 0) (words : Option (List ℕ)) → IfSome words (λ ws. is_blank ws ≡ false → P ws)
    → IfSome (option_and_then buffer_for words) P
kept_words P words have = grind (arith, cases_Bool, none-needed, some-needed)

any_words : (l : LayoutParts) (words : Option (List ℕ)) → IfSome words (λ ws. length ws ≡ l.words)
    → IfSome words (λ ws. is_blank ws ≡ false → length ws ≡ l.words)
any_words l words have = grind arith

buffer_words : (l : LayoutParts) (ps : Pages) (found : Option (ℕ × ℕ)) → ArePagesOf l ps
    → IfSome (option_and_then (page_buffer ps) found) (λ words. length words ≡ l.words)
buffer_words l ps found are = grind (arith, kept_words, any_words)

pub are_page_frames : (l : LayoutParts) (ps : Pages) → ArePagesOf l ps
    → ArePageFramesOf l (page_frames_of l ps)
are_page_frames l ps are =
    grind (arith, length-map-range_with_len, cases_lt, buffer_is, buffer_words, no_buffer_past)

-- the frame view is settled
needed_words : (v : PageFrames) (frame : ℕ) (words : Option (List ℕ)) → holders v.table frame ≡ 1
    → IfSome words (λ ws. is_blank ws ≡ false → IsNeeded v frame ws)
needed_words v frame words one = grind arith

needed_found : (l : LayoutParts) (ps : Pages) (frame : ℕ) (found : Option (ℕ × ℕ))
    → holders ps.table frame ≤ 1 → page_at ps frame ≡ found
    → IfSome (option_and_then (page_buffer ps) found) (IsNeeded (page_frames_of l ps) frame)
needed_found l ps frame None once first = tt
needed_found l ps frame (Some page) once first =
    let one : holders ps.table frame ≡ 1 =
    omega (arith, once, holds_some ps.table page.0 page.1 frame (entry_at ps.table frame page first)) in
    grind (arith, kept_words, needed_words)

pub settled_view : (l : LayoutParts) (ps : Pages) → AreOnce l ps → AreSettled (page_frames_of l ps)
settled_view l ps are = grind (arith, cases_lt, buffer_is, needed_found, no_buffer_past)

-- ---- well placed states

page_words : (l : LayoutParts) (entry : Option ℕ) (words : Option (List ℕ)) → IsPage l entry words
    → is_some words ≡ is_some entry
page_words l entry words is = grind arith

-- in a well placed state no frame holds two pages, and the frame view of its pages is settled
pub once_placed : (l : LayoutParts) (s : Memory) → IsWellPlaced l s → ArePagesOf l s.pages → AreOnce l s.pages
once_placed l s placed are = grind (arith, page_words)

pub settled_placed : (l : LayoutParts) (s : Memory) → IsWellPlaced l s → ArePagesOf l s.pages
    → AreSettled (page_frames_of l s.pages)
settled_placed l s placed are = settled_view l s.pages (once_placed l s placed are)
