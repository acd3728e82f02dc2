-- What the calls of the layer of pages keep and note.
use Rattle.std.proofs.Common.{◌≡◌, ℕ, ◌<◌, ◌+◌, List, [], ◌∷◌, ◌++◌, length, Option, Some, None, inl, inr, arith}
use Rattle.std.specs.Prelude.{IfSome}
use Rattle.std.proofs.lemmas.Bool.{cases_eq}
use Rattle.std.proofs.lemmas.List.{get_or-set_same, get_or-set_other, set-set, set-get_or}
use Rattle.hp_units.specs.LayoutParts.{LayoutParts}
use Rattle.hp_units.specs.Arithmetic.{IsFrame}
use Rattle.hp_units.specs.Memory.{entry_of, with_entry}
use Rattle.hp_tape.specs.declared.deltas.Delta.TheVariants.{Map as MapDelta, Swap, Emptied}
use Rattle.hp_tape.specs.declared.frame_changes.FrameChange.TheVariants.{Mapped, Unmapped, Moved}
use Rattle.hp_tape.specs.Deltas.{FitsPages, IsOfPages, PageFrames, buffer_of, pages_undo, with_buffer}
use Rattle.hp_tape.specs.Tapes.{TapeValue, NotesPages}
use Rattle.hp_tape.proofs.Leads.{notes-none}
use Rattle.hp_pages.specs.Pages.{ArePageFramesOf, AreSettled, IsNeeded, map_frame, move_entry, unmap_from}
use Rattle.hp_pages.specs.Places.{held, holders}
use Rattle.hp_pages.proofs.Places.{IsIn, entry-back, entry-same, holders-entry, holds_some}
use Rattle.hp_pages.proofs.PageParts.{AreSized, has_none, held_no, held_yes, noted_one, noted_two, page_of, same_frames, swap_twice, swapped_a, swapped_b}

-- ---- map

-- a buffer stays needed if its frame still holds one page, and if it moves to another frame that
-- holds one
pub needed_at : (v new : PageFrames) (f g : ℕ) (b : Option (List ℕ))
    → (holders v.table f ≡ 1 → holders new.table g ≡ 1) → IfSome b (IsNeeded v f) → IfSome b (IsNeeded new g)
needed_at v new f g b one needed = grind arith

-- what mapping a page notes
pub notes-map : (l : LayoutParts) (v : PageFrames) (owner page frame : ℕ) (was now : TapeValue)
    → ArePageFramesOf l v → AreSettled v
    → owner < l.owners → page < l.pages → IsFrame l frame → entry_of v.table owner page ≡ None
    → holders v.table frame ≡ 0
    → now.room ≡ was.room → now.deltas ≡ was.deltas ++ MapDelta owner page (Mapped frame) ∷ []
    → NotesPages l 1 was now (map_frame v owner page frame) v
notes-map l v owner page frame was now are settled in_owners in_pages in_frames unmapped free room noted =
    let is_in = page_of l v owner page are in_owners in_pages in
    record {
      deltas = MapDelta owner page (Mapped frame) ∷ [];
      tape = noted_one was now _ room noted;
      few = omega arith;
      own = (tt, tt);
      numbers = ((in_owners, in_pages, tt, in_frames), tt);
      lead = grind (arith, entry-same, has_none, same_frames, entry-back);
    }

-- how many pages each frame holds once a page is mapped
map_counts : (v : PageFrames) (owner page frame : ℕ) → IsIn v.table owner page
    → entry_of v.table owner page ≡ None → (f : ℕ)
    → holders (with_entry v.table owner page (Some frame)) f ≡ holders v.table f + held f (Some frame) 1
map_counts v owner page frame is_in unmapped f = grind (arith, holders-entry)

-- a view stays settled when a page is mapped
pub settled-map : (l : LayoutParts) (v : PageFrames) (owner page frame : ℕ) → ArePageFramesOf l v
    → AreSettled v
    → owner < l.owners → page < l.pages → entry_of v.table owner page ≡ None → holders v.table frame ≡ 0
    → AreSettled (map_frame v owner page frame)
settled-map l v owner page frame are settled in_owners in_pages unmapped free =
    grind (arith, map_counts, page_of, cases_eq, held_yes, held_no, needed_at)

-- ---- unmap

-- taking the buffer away from a frame that has none changes nothing
pub kept-none : (v : PageFrames) (frame : ℕ) → buffer_of v frame ≡ None → with_buffer v frame None ≡ v
kept-none v frame none = grind (arith, same_frames, set-get_or)

-- what a call that changes nothing notes
pub notes-nothing : (l : LayoutParts) (v new : PageFrames) (tape : TapeValue) → new ≡ v
    → NotesPages l 1 tape tape new v
notes-nothing l v new tape same = rw same (notes-none IsOfPages FitsPages pages_undo l 1 tape v)

-- what taking a buffer away notes
pub notes-empty : (l : LayoutParts) (v : PageFrames) (frame : ℕ) (words : List ℕ) (was now : TapeValue)
    → AreSized l v
    → IsFrame l frame → buffer_of v frame ≡ Some words → now.room ≡ was.room
    → now.deltas ≡ was.deltas ++ Emptied frame words ∷ []
    → NotesPages l 1 was now (with_buffer v frame None) v
notes-empty l v frame words was now are in_frames there room noted =
    let len : length words ≡ l.words = grind arith in
    record {
      deltas = Emptied frame words ∷ [];
      tape = noted_one was now _ room noted;
      few = omega arith;
      own = (tt, tt);
      numbers = ((in_frames, len), tt);
      lead = grind (arith, get_or-set_same, same_frames, set-set, set-get_or);
    }

-- what clearing an entry notes
pub notes-clear : (l : LayoutParts) (v : PageFrames) (owner page frame : ℕ) (was now : TapeValue)
    → ArePageFramesOf l v
    → owner < l.owners → page < l.pages → IsFrame l frame → entry_of v.table owner page ≡ Some frame
    → now.room ≡ was.room → now.deltas ≡ was.deltas ++ MapDelta owner page (Unmapped frame) ∷ []
    → NotesPages l 1 was now (record v { table = with_entry v.table owner page None }) v
notes-clear l v owner page frame was now are in_owners in_pages in_frames mapped room noted =
    let is_in = page_of l v owner page are in_owners in_pages in
    record {
      deltas = MapDelta owner page (Unmapped frame) ∷ [];
      tape = noted_one was now _ room noted;
      few = omega arith;
      own = (tt, tt);
      numbers = ((in_owners, in_pages, in_frames, tt), tt);
      lead = grind (arith, entry-same, same_frames, entry-back);
    }

-- how many pages each frame holds once a page is unmapped
unmap_counts : (v : PageFrames) (owner page frame : ℕ) → IsIn v.table owner page
    → entry_of v.table owner page ≡ Some frame → (f : ℕ)
    → holders (with_entry v.table owner page None) f + held f (Some frame) 1 ≡ holders v.table f
unmap_counts v owner page frame is_in mapped f = grind (arith, holders-entry)

-- a view stays settled when a page is unmapped
pub settled-unmap : (l : LayoutParts) (v : PageFrames) (owner page frame : ℕ) → ArePageFramesOf l v
    → AreSettled v
    → owner < l.owners → page < l.pages → entry_of v.table owner page ≡ Some frame
    → AreSettled (unmap_from v owner page frame)
settled-unmap l v owner page frame are settled in_owners in_pages mapped =
    let counts = unmap_counts v owner page frame (page_of l v owner page are in_owners in_pages) mapped in
    record {
      once = λ f. omega (arith, counts f, settled.once f);
      buffers = grind (arith, cases_eq, get_or-set_same, get_or-set_other, needed_at, held_no);
    }

-- ---- move

-- a frame that holds a page is not a frame that holds none
apart_of : (v : PageFrames) (owner page from to : ℕ) → entry_of v.table owner page ≡ Some from
    → holders v.table to ≡ 0 → from ≡ to → ⊥
apart_of v owner page from to mapped free same = grind (arith, holds_some)

-- what moving a page notes
pub notes-move : (l : LayoutParts) (v : PageFrames) (owner page from to : ℕ) (was mid now : TapeValue)
    → ArePageFramesOf l v → AreSettled v
    → IsFrame l from → IsFrame l to → entry_of v.table owner page ≡ Some from → holders v.table to ≡ 0
    → owner < l.owners → page < l.pages
    → mid.room ≡ was.room → mid.deltas ≡ was.deltas ++ Swap from to ∷ []
    → now.room ≡ mid.room → now.deltas ≡ mid.deltas ++ MapDelta owner page (Moved from to) ∷ []
    → NotesPages l 2 was now (move_entry v owner page from to) v
notes-move l v owner page from to was mid now are settled from_in to_in mapped free in_owners in_pages
    mid_room mid_noted room noted =
    let is_in = page_of l v owner page are in_owners in_pages in
    let from_within : from < length v.buffers = omega (arith, are.frames, from_in) in
    let to_within : to < length v.buffers = omega (arith, are.frames, to_in) in
    record {
      deltas = Swap from to ∷ MapDelta owner page (Moved from to) ∷ [];
      tape = noted_two was mid now _ _ mid_room mid_noted room noted;
      few = omega arith;
      own = (tt, (tt, tt));
      numbers = ((from_in, to_in), ((in_owners, in_pages, from_in, to_in), tt));
      lead = record {
        fit = ((tt, (entry-same v.table owner page (Some to) is_in, tt)), tt);
        back = same_frames _ _ _ _ (entry-back v.table owner page (Some to) (Some from) is_in mapped)
            (swap_twice v.buffers from to (apart_of v owner page from to mapped free) from_within to_within);
      };
    }

-- how many pages each frame holds once a page has moved
move_counts : (v : PageFrames) (owner page from to : ℕ) → IsIn v.table owner page
    → entry_of v.table owner page ≡ Some from → (f : ℕ)
    → holders (with_entry v.table owner page (Some to)) f + held f (Some from) 1
    ≡ holders v.table f + held f (Some to) 1
move_counts v owner page from to is_in mapped f = grind (arith, holders-entry)

-- a view stays settled when a page moves
pub settled-move : (l : LayoutParts) (v : PageFrames) (owner page from to : ℕ) → ArePageFramesOf l v
    → AreSettled v
    → IsFrame l from → IsFrame l to → entry_of v.table owner page ≡ Some from → holders v.table to ≡ 0
    → owner < l.owners → page < l.pages
    → AreSettled (move_entry v owner page from to)
settled-move l v owner page from to are settled from_in to_in mapped free in_owners in_pages =
    let to_within : to < length v.buffers = omega (arith, are.frames, to_in) in
    let counts = move_counts v owner page from to (page_of l v owner page are in_owners in_pages) mapped in
    let apart = apart_of v owner page from to mapped free in
    record {
      once = grind (arith, cases_eq, held_yes, held_no);
      buffers = λ f. elim (cases_eq to f) [
        | inl same ↦ grind (arith, held_yes, held_no, swapped_b, needed_at)
        | inr other_to ↦ elim (cases_eq from f) [
          | inl same ↦ grind (arith, swapped_a, has_none)
          | inr other_from ↦ grind (arith, get_or-set_other, needed_at, held_no)
        ]
      ];
    }
