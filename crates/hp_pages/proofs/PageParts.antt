-- Parts of the view of the layer of pages: buffers, pages, tapes, and the view without pages.
use Rattle.std.proofs.Common.{◌≡◌, ℕ, zero, suc, ◌<◌, ◌+◌, List, [], ◌∷◌, ◌++◌, length, get_or, set, map, take, replicate, Option, Some, None, refl, subst, arith}
use Rattle.std.specs.Prelude.{IfSome, option_map}
use Rattle.std.specs.List.{AllByRecursion, range_with_len}
use Rattle.std.proofs.lemmas.Bool.{cases_eq, eq-eqb, ne_eqb, cond-true, cond-false}
use Rattle.std.proofs.lemmas.List.{append_assoc, get_or-set_same, get_or-set_other, length-set, set-set, set_comm, set-get_or, take_more}
use Rattle.hp_units.specs.LayoutParts.{LayoutParts}
use Rattle.hp_units.specs.Arithmetic.{frame_count}
use Rattle.hp_units.specs.Boot.{empty_pages}
use Rattle.hp_units.specs.Memory.{entry_of, with_entry}
use Rattle.hp_units.specs.Pages.{page_from}
use Rattle.hp_tape.specs.declared.deltas.Delta.{Delta}
use Rattle.hp_tape.specs.Deltas.{PageFrames, buffer_of, page_frames_of}
use Rattle.hp_tape.specs.Tapes.{TapeValue}
use Rattle.hp_pages.specs.Pages.{AreLayerOf, ArePageFramesOf, AreSettled, PagesValue}
use Rattle.hp_pages.specs.Places.{IsTable, TableValue, held, holders}
use Rattle.hp_pages.proofs.Places.{IsIn, page_from-None, page_from-Some}
use Rattle.hp_pages.proofs.Tables.{empty_first, page_in, row_length}

-- ---- parts of a view

abbrev pub view_of : List (List (Option ℕ)) → List (Option (List ℕ)) → PageFrames
view_of table buffers = record { table = table; buffers = buffers }

abbrev pub value_with : LayoutParts → PageFrames → PagesValue
value_with layout v = record { layout = layout; pages = v }

abbrev pub value_of : LayoutParts → List (List (Option ℕ)) → List (Option (List ℕ)) → PagesValue
value_of layout table buffers = value_with layout (view_of table buffers)

-- two views with the same parts
pub same_frames : (table other : List (List (Option ℕ))) (buffers others : List (Option (List ℕ)))
    → table ≡ other → buffers ≡ others
    → view_of table buffers ≡ view_of other others
same_frames table other buffers others e f = rw (e, f)

-- the numbers of a layer's parts
pub are_of : (l : LayoutParts) (t : TableValue) (buffers : List (Option (List ℕ))) (zeros : List ℕ)
    → AreLayerOf l t buffers zeros → IsTable t → ArePageFramesOf l (view_of t.rows buffers)
are_of l t buffers zeros layer table = record {
  owners = layer.owners;
  pages = subst (λ (n : ℕ). AllByRecursion (λ row. length row ≡ n) t.rows) layer.pages table.rows;
  mapped =
      λ owner page. subst (λ (n : ℕ). IfSome (entry_of t.rows owner page) (λ frame. frame < n)) layer.frames
      (table.mapped owner page);
  frames = layer.buffers_of;
  words = layer.words;
}

-- they stay within the layout when one buffer changes
pub layer-buffer : (l : LayoutParts) (t : TableValue) (buffers new : List (Option (List ℕ)))
    (zeros : List ℕ) (frame : ℕ) (b : Option (List ℕ))
    → AreLayerOf l t buffers zeros → frame < frame_count l → IfSome b (λ words. length words ≡ l.words)
    → new ≡ set buffers frame b
    → AreLayerOf l t new zeros
layer-buffer l t buffers new zeros frame b are low sized e =
    grind (arith, length-set, cases_eq, get_or-set_same, get_or-set_other)

-- a changed word leaves the size of its buffer the same
pub same-size : (b : Option (List ℕ)) (size index value : ℕ) → IfSome b (λ words. length words ≡ size)
    → IfSome (option_map (λ words. set words index value) b) (λ words. length words ≡ size)
same-size b size index value sized = grind (arith, length-set)

-- and when one entry changes
pub layer-entry : (l : LayoutParts) (t new : TableValue) (buffers : List (Option (List ℕ))) (zeros : List ℕ)
    (owner page : ℕ) (entry : Option ℕ)
    → AreLayerOf l t buffers zeros → new ≡ record t { rows = with_entry t.rows owner page entry }
    → AreLayerOf l new buffers zeros
layer-entry l t new buffers zeros owner page entry are e = grind (arith, length-set)

-- the buffers are of the layout's frames and words
pub record AreSized (l : LayoutParts) (v : PageFrames) : Type 0 where
  pub frames : length v.buffers ≡ frame_count l
  pub words : (frame : ℕ) → IfSome (buffer_of v frame) (λ words. length words ≡ l.words)

pub sized_of : (l : LayoutParts) (t : TableValue) (buffers : List (Option (List ℕ))) (zeros : List ℕ)
    → AreLayerOf l t buffers zeros → AreSized l (view_of t.rows buffers)
sized_of l t buffers zeros layer = record { frames = layer.buffers_of; words = layer.words }

-- a page of the layout
pub page_of : (l : LayoutParts) (v : PageFrames) (owner page : ℕ) → ArePageFramesOf l v → owner < l.owners
    → page < l.pages → IsIn v.table owner page
page_of l v owner page are in_owners in_pages =
    page_in l.pages v.table owner page are.pages (omega (arith, are.owners)) in_pages

-- a frame without a page has no buffer
pub has_none : (v : PageFrames) (frame : ℕ) → AreSettled v → holders v.table frame ≡ 0
    → buffer_of v frame ≡ None
has_none v frame settled none = grind arith

-- the first page of a frame, in a layout
pub record IsFirstPage (l : LayoutParts) (v : PageFrames) (frame : ℕ) (page : ℕ × ℕ) : Type 0 where
  pub entry : entry_of v.table page.0 page.1 ≡ Some frame
  pub in_owners : page.0 < l.owners
  pub in_pages : page.1 < l.pages

pub first_page : (l : LayoutParts) (v : PageFrames) (frame : ℕ) (page : ℕ × ℕ) → ArePageFramesOf l v
    → page_from 0 v.table frame ≡ Some page → IsFirstPage l v frame page
first_page l v frame page are first =
    let is = page_from-Some 0 v.table frame page first in
    let row_is : is.row ≡ page.0 = omega (arith, is.owner_is) in
    record {
      entry = subst (λ (o : ℕ). entry_of v.table o page.1 ≡ Some frame) row_is is.entry;
      in_owners = omega (arith, row_is, is.in_owners, are.owners);
      in_pages = omega (arith, is.in_pages, row_length l.pages v.table is.row are.pages is.in_owners);
    }

-- a tape by its parts, after one note and after two
pub noted_one : (was now : TapeValue) (d : Delta) → now.room ≡ was.room → now.deltas ≡ was.deltas ++ d ∷ []
    → now ≡ record { room = was.room; deltas = was.deltas ++ d ∷ [] }
noted_one was now d room noted = rw (room, noted)

pub noted_two : (was mid now : TapeValue) (d e : Delta) → mid.room ≡ was.room
    → mid.deltas ≡ was.deltas ++ d ∷ [] → now.room ≡ mid.room → now.deltas ≡ mid.deltas ++ e ∷ []
    → now ≡ record { room = was.room; deltas = was.deltas ++ (d ∷ e ∷ []) }
noted_two was mid now d e mid_room mid_noted room noted = grind (arith, append_assoc)

-- what an entry holds
pub held_yes : (frame f : ℕ) → frame ≡ f → held f (Some frame) 1 ≡ 1
held_yes frame f e = cond-true _ _ _ (eq-eqb frame f e)

pub held_no : (frame f : ℕ) → (frame ≡ f → ⊥) → held f (Some frame) 1 ≡ 0
held_no frame f ne = cond-false _ _ _ (ne_eqb frame f ne)

-- two places of a list after a swap
pub swapped_a : (buffers : List (Option (List ℕ))) (a b : ℕ) (x y : Option (List ℕ)) → (a ≡ b → ⊥)
    → a < length buffers → get_or (set (set buffers a y) b x) a None ≡ y
swapped_a buffers a b x y apart a_in = grind (arith, get_or-set_other, get_or-set_same)

pub swapped_b : (buffers : List (Option (List ℕ))) (a b : ℕ) (x y : Option (List ℕ)) → b < length buffers
    → get_or (set (set buffers a y) b x) b None ≡ x
swapped_b buffers a b x y b_in = grind (arith, get_or-set_same, length-set)

-- two swaps
pub swap_twice : (buffers : List (Option (List ℕ))) (a b : ℕ) → (a ≡ b → ⊥) → a < length buffers
    → b < length buffers
    → let once = set (set buffers a (get_or buffers b None)) b (get_or buffers a None) in
    set (set once a (get_or once b None)) b (get_or once a None) ≡ buffers
swap_twice buffers a b apart a_in b_in = grind (arith, swapped_b, swapped_a, set_comm, set-set, set-get_or)

-- ---- no pages

-- a list made by a function that is always None
pub map_none : {X : Type 0} (f : ℕ → Option X) → ((n : ℕ) → f n ≡ None) → (first count : ℕ)
    → map f (range_with_len first count) ≡ replicate count None
map_none f none first zero = refl
map_none {X = X} f none first (suc count) = rw (none first, map_none f none (first + 1) count)

-- the frame view of a layout without pages
abbrev pub no_pages : LayoutParts → PageFrames
no_pages l =
    record { table = replicate l.owners (replicate l.pages None); buffers = replicate (frame_count l) None }

-- it is the frame view of empty pages
pub no_pages_is : (l : LayoutParts) → page_frames_of l (empty_pages l) ≡ no_pages l
no_pages_is l = grind (arith, map_none, empty_first)

-- no buffer
abbrev pub no_buffer : Option (List ℕ)
no_buffer = None

-- no frame has a buffer in it
pub none_read : (count frame : ℕ) → get_or (replicate count no_buffer) frame None ≡ None
none_read (suc count) (suc frame) = none_read count frame
none_read _ _ = refl

-- and that frame view is settled
pub settled_no_pages : (l : LayoutParts) → AreSettled (no_pages l)
settled_no_pages l = record {
  once =
      λ frame. omega (
        arith,
        page_from-None 0 (replicate l.owners (replicate l.pages None)) frame
            (empty_first l.owners l.pages frame),
      );
  buffers =
      λ frame. rw (none_read (frame_count l) frame) tt;
}

-- the new layer
pub new_is : (l layout : LayoutParts) (rows : List (List (Option ℕ))) (buffers : List (Option (List ℕ)))
    → layout ≡ l
    → rows ≡ replicate l.owners (replicate l.pages None) → buffers ≡ replicate (frame_count l) None
    → value_of layout rows buffers ≡ record { layout = l; pages = page_frames_of l (empty_pages l) }
new_is l layout rows buffers layout_is rows_are buffers_are =
    grind (arith, same_frames, replicate, no_pages_is)

-- ---- lists that are copied

-- one more item is copied
pub copied-more : {X : Type 0} (xs items copy new : List X) (at : ℕ) (item x : X) → items ≡ xs
    → at < length items → item ≡ get_or items at item → x ≡ item → copy ≡ take at xs → new ≡ copy ++ x ∷ []
    → new ≡ take (at + 1) xs
copied-more {X} xs items copy new at item x same low read is done e = grind (arith, take_more)
