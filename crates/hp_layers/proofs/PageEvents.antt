-- The events of owners' pages.
use Rattle.std.proofs.Common.{◌≡◌, ℕ, ◌<◌, List, [], Option, Some, None, refl, sym, ◌∙◌, ap, subst, arith}
use Rattle.std.specs.Prelude.{slice_index, unwrap_or}
use Rattle.std.proofs.lemmas.Bool.{lt-leb}
use Rattle.hp_units.specs.declared.rows.Zone.{Zone}
use Rattle.hp_units.specs.LayoutParts.{LayoutParts}
use Rattle.hp_units.specs.Arithmetic.{frame_count}
use Rattle.hp_units.specs.InLayout.{ArePagesOf}
use Rattle.hp_units.specs.Memory.{Memory, entry_of}
use Rattle.hp_units.specs.Pages.{frame_at, fresh_words, map_page, read_word, unmap_page, write_word}
use Rattle.hp_units.specs.ProcessorLists.{Handed, page_frame}
use Rattle.hp_units.specs.Rows.{zone_of}
use Rattle.hp_units.specs.Step.{done, give_back, map_step, unmap_step, with_free, with_pages}
use Rattle.hp_units.specs.declared.events.Event.TheVariants.{Map, Read, Unmap, Write}
use Rattle.hp_units.specs.declared.replies.Refusal.TheVariants.{NoFrame}
use Rattle.hp_units.specs.declared.replies.Reply.TheVariants.{Done, Refused, Word}
use Rattle.hp_tape.specs.declared.deltas.Delta.{Delta}
use Rattle.hp_tape.specs.Deltas.{FrameView, PageFrames, page_frames_of}
use Rattle.hp_tape.specs.Tapes.{NotesFree, NotesPages, TapeValue}
use Rattle.hp_buddy.proofs.Undoes.{take-few}
use Rattle.hp_units.specs.declared.rows.Pool.TheVariants.{Mm as MmPool}
use Rattle.hp_units.proofs.ListEdits.{covered-self}
use Rattle.hp_laws.proofs.Fitting.{placed-fits}
use Rattle.hp_pages.specs.Pages.{AreSettled, PagesValue, map_frame, unmap_frame, words_of, write_frame}
use Rattle.hp_pages.specs.Places.{holders}
use Rattle.hp_pages.proofs.Blanks.{zeros-blank}
use Rattle.hp_pages.proofs.Views.{AreOnce, once_placed, settled_placed, view-map_page, view-read_word, view-unmap_page, view-write_word}
use Rattle.hp_plain.specs.Asked.{asked}
use Rattle.hp_layers.specs.declared.frames.Frames.{Frames}
use Rattle.hp_layers.specs.declared.layers.Layers.{Layers}
use Rattle.hp_layers.specs.Frames.{IsGiven, IsTaken, free_of, give_back_bound, given_back, page_frame_bound}
use Rattle.hp_layers.specs.Layers.{AreOfOneLayout, ArePlaced, IsAnswered, state_of, view_of}
use Rattle.hp_layers.proofs.Answers.{frames-one, give_back-few, give_back-is, hands-none, hands-some, noted, notes-then, unchanged}
use Rattle.hp_layers.proofs.Lifts.{notes-free, notes-pages}
use Rattle.hp_layers.proofs.Refusals.{IsWord}

-- ---- the pages of a well placed state

pages_fit : (m : Layers) → ArePlaced m → ArePagesOf m.layout (state_of m).pages
pages_fit m p = (placed-fits m.layout (state_of m) p.one.layout p.placed).pages

pub pages_once : (m : Layers) → ArePlaced m → AreOnce m.layout (state_of m).pages
pages_once m p = once_placed m.layout (state_of m) p.placed (pages_fit m p)

pub pages_seen : (m : Layers) → ArePlaced m → m.pages.pages ≡ page_frames_of m.layout (state_of m).pages
pages_seen m p = ap (λ (v : FrameView). v.pages) p.view

pub settled : (m : Layers) → ArePlaced m → AreSettled m.pages.pages
settled m p = rw (pages_seen m p) (settled_placed m.layout (state_of m) p.placed (pages_fit m p))

-- a frame that was handed out holds no page
pub taken-free : (m : Layers) (wanted : Option Handed) (most : ℕ) (f : Frames) (was now : TapeValue)
    (frame : ℕ)
    → ArePlaced m → IsTaken wanted 0 most m.frames f was now (Some frame)
    → holders m.pages.pages.table frame ≡ 0
taken-free m wanted most f was now frame p t =
    omega (arith, p.placed.once frame, t.block.places frame, covered-self 0 frame)

pub taken-inside : (m : Layers) (wanted : Option Handed) (most : ℕ) (f : Frames) (was now : TapeValue)
    (frame : ℕ)
    → ArePlaced m → IsTaken wanted 0 most m.frames f was now (Some frame)
    → frame < frame_count m.layout
taken-inside m wanted most f was now frame p t =
    subst (λ (l : LayoutParts). frame < frame_count l) p.one.cpus (let h = t.block.within in omega (arith, h))

-- ---- Map

maps : (l : LayoutParts) (s : Memory) (cpu owner page : ℕ) (handed : Handed)
    → page_frame l s.free cpu ≡ Some handed
    → map_step l s cpu owner page
    ≡ done (with_pages (with_free s handed.free) (map_page s.pages owner page handed.frame (fresh_words l)))
unfolding map_step
maps l s cpu owner page handed is = rw is refl

mapped : (l : LayoutParts) (s : Memory) (cpu owner page : ℕ) (handed : Handed) → owner < l.owners
    → page < l.pages → frame_at s.pages owner page ≡ None → page_frame l s.free cpu ≡ Some handed
    → asked l s cpu (Map owner page)
    ≡ done (with_pages (with_free s handed.free) (map_page s.pages owner page handed.frame (fresh_words l)))
mapped l s cpu owner page handed low small none is =
    rw (lt-leb l.owners owner low, lt-leb l.pages page small, none, is) (maps l s cpu owner page handed is)

-- no frame was found
map-none : (l : LayoutParts) (s : Memory) (cpu owner page : ℕ) → owner < l.owners → page < l.pages
    → frame_at s.pages owner page ≡ None → page_frame l s.free cpu ≡ None
    → asked l s cpu (Map owner page) ≡ record { memory = s; reply = Refused NoFrame }
map-none l s cpu owner page low small unmapped none =
    rw (lt-leb l.owners owner low, lt-leb l.pages page small, unmapped, none) refl

pub map-refused : (m : Layers) (f : Frames) (cpu owner page most : ℕ) (was now : TapeValue) → ArePlaced m
    → owner < m.layout.owners → page < m.layout.pages → entry_of m.pages.pages.table owner page ≡ None
    → IsTaken (page_frame m.frames.cpus.layout (free_of m.frames) cpu) 0 most m.frames f was now None
    → asked m.layout (state_of m) cpu (Map owner page)
    ≡ record { memory = state_of m; reply = Refused NoFrame }
map-refused m f cpu owner page most was now p low small unmapped t =
    map-none m.layout (state_of m) cpu owner page low small unmapped
    (rw (← p.one.cpus) (hands-none _ (free_of m.frames) (free_of f) t.handed))

-- the layers with other frames and other pages are of one layout
pub both-one : (m : Layers) (f : Frames) (ps : PagesValue) → ArePlaced m
    → f.cpus.layout ≡ m.frames.cpus.layout → f.buddy.layout ≡ f.cpus.layout → ps.layout ≡ m.pages.layout
    → AreOfOneLayout (record m { frames = f; pages = ps })
both-one m f ps p same buddy pages =
    let one = frames-one m f p.one same buddy in
    record {
      layout = one.layout;
      buddy = one.buddy;
      cpus = one.cpus;
      pages = pages ∙ p.one.pages;
      kernel = one.kernel;
      blocks = one.blocks;
    }

pub map-done : {before : List Delta} (m : Layers) (f : Frames) (ps : PagesValue) (cpu owner page frame : ℕ)
    (was mid now : TapeValue)
    → ArePlaced m → owner < m.layout.owners → page < m.layout.pages
    → entry_of m.pages.pages.table owner page ≡ None → was.deltas ≡ before
    → IsTaken (page_frame m.frames.cpus.layout (free_of m.frames) cpu) 0
    (page_frame_bound m.frames.cpus.layout (free_of m.frames) cpu) m.frames f was mid (Some frame)
    → ps.layout ≡ m.pages.layout → ps.pages ≡ map_frame m.pages.pages owner page frame
    → NotesPages m.pages.layout 1 mid now ps.pages m.pages.pages
    → IsAnswered m (Map owner page) (asked m.layout (state_of m) cpu (Map owner page))
    (record m { frames = f; pages = ps }) before now.deltas Done
map-done {before} m f ps cpu owner page frame was mid now p low small unmapped none t layout_is set_is notes =
    let l = m.layout in
    let s = state_of m in
    let v = view_of m in
    let fs = free_of m.frames in
    let same : m.frames.cpus.layout ≡ l = p.one.cpus in
    let is : page_frame l fs cpu ≡ Some (record { free = free_of f; frame = frame }) =
    rw (← same) (hands-some _ _ _ frame t.handed) in
    let seen : ps.pages ≡ page_frames_of l (map_page s.pages owner page frame (fresh_words l)) =
    set_is ∙ (ap (λ (q : PageFrames). map_frame q owner page frame) (pages_seen m p)
    ∙ sym (view-map_page l s.pages owner page frame (fresh_words l) (pages_once m p) low small
    (taken-inside m _ _ f was mid frame p t) unmapped (taken-free m _ _ f was mid frame p t)
    (zeros-blank l.words))) in
    let first =
    notes-free v l (page_frame_bound l fs cpu) was mid (free_of f) fs (rw (← same) t.notes) in
    let second =
    notes-pages (record v { free = free_of f }) l 1 mid now ps.pages m.pages.pages
    (subst (λ (k : LayoutParts). NotesPages k 1 mid now ps.pages m.pages.pages) p.one.pages notes) in
    rw (mapped l s cpu owner page _ low small unmapped is) (record {
      led = record {
        one = both-one m f ps p t.layout t.tidy.layout layout_is;
        layout = refl;
        view = ap (λ (q : PageFrames). record v { free = free_of f; pages = q }) seen;
      };
      reply = refl;
      noted =
          noted l _ _ was now _ _ none (let few = take-few l fs cpu MmPool in omega (arith, few))
          (notes-then l _ 1 was mid now _ _ v first second);
    })

-- ---- Unmap

unmaps : (l : LayoutParts) (s : Memory) (cpu owner page frame : ℕ) → frame_at s.pages owner page ≡ Some frame
    → unmap_step l s cpu owner page
    ≡ done (give_back l (with_pages s (unmap_page s.pages owner page)) cpu frame 0)
unfolding unmap_step
unmaps l s cpu owner page frame is = rw is refl

unmapped_by : (l : LayoutParts) (s : Memory) (cpu owner page frame : ℕ) → owner < l.owners → page < l.pages
    → frame_at s.pages owner page ≡ Some frame
    → asked l s cpu (Unmap owner page)
    ≡ done (give_back l (with_pages s (unmap_page s.pages owner page)) cpu frame 0)
unmapped_by l s cpu owner page frame low small is =
    rw (lt-leb l.owners owner low, lt-leb l.pages page small, is) (unmaps l s cpu owner page frame is)

unmap-done-in : {before : List Delta} (m : Layers) (f : Frames) (ps : PagesValue) (cpu owner page frame : ℕ)
    (was mid now : TapeValue)
    → ArePlaced m → owner < m.layout.owners → page < m.layout.pages
    → entry_of m.pages.pages.table owner page ≡ Some frame → was.deltas ≡ before
    → ps.layout ≡ m.pages.layout → ps.pages ≡ unmap_frame m.pages.pages owner page
    → NotesPages m.pages.layout 2 was mid ps.pages m.pages.pages
    → IsGiven
    (given_back m.frames.cpus.layout (free_of m.frames) cpu (zone_of m.layout (state_of m) frame) frame 0)
    (give_back_bound m.frames.cpus.layout (free_of m.frames) cpu (zone_of m.layout (state_of m) frame) frame
    0) m.frames f mid now
    → IsAnswered m (Unmap owner page) (asked m.layout (state_of m) cpu (Unmap owner page))
    (record m { frames = f; pages = ps }) before now.deltas Done
unmap-done-in {before} m f ps cpu owner page frame was mid now p low small is none layout_is set_is notes g =
    let l = m.layout in
    let s = state_of m in
    let v = view_of m in
    let fs = free_of m.frames in
    let zone = zone_of l s frame in
    let same : m.frames.cpus.layout ≡ l = p.one.cpus in
    let free_is : free_of f ≡ given_back l fs cpu zone frame 0 =
    subst (λ (k : LayoutParts). free_of f ≡ given_back k fs cpu zone frame 0) same g.given in
    let seen : ps.pages ≡ page_frames_of l (unmap_page s.pages owner page) =
    set_is ∙ (ap (λ (q : PageFrames). unmap_frame q owner page) (pages_seen m p)
    ∙ sym (view-unmap_page l s.pages owner page frame (pages_once m p) low small is)) in
    let first =
    notes-pages v l 2 was mid ps.pages m.pages.pages
    (subst (λ (k : LayoutParts). NotesPages k 2 was mid ps.pages m.pages.pages) p.one.pages notes) in
    let second =
    notes-free (record v { pages = ps.pages }) l (give_back_bound l fs cpu zone frame 0) mid now (free_of f)
    fs
    (subst (λ (k : LayoutParts). NotesFree k (give_back_bound k fs cpu zone frame 0) mid now (free_of f) fs)
    same g.notes) in
    rw (unmapped_by l s cpu owner page frame low small is)
    (rw (give_back-is l (with_pages s (unmap_page s.pages owner page)) cpu frame 0) (record {
      led = record {
        one = both-one m f ps p g.layout g.tidy.layout layout_is;
        layout = refl;
        view = rw (seen, free_is);
      };
      reply = refl;
      noted =
          noted l _ _ was now _ _ none (let few = give_back-few l fs cpu zone frame 0 p.one.layout in
          omega (arith, few)) (notes-then l 2 _ was mid now _ _ v first second);
    }))

-- the Unmap is done, by the frame that the pages returned and the zone that was read
pub unmap-done : {before : List Delta} (m : Layers) (f : Frames) (ps : PagesValue) (cpu owner page frame : ℕ)
    (zone : Zone) (was mid now : TapeValue)
    → ArePlaced m → owner < m.layout.owners → page < m.layout.pages
    → entry_of m.pages.pages.table owner page ≡ Some frame → was.deltas ≡ before
    → ps.layout ≡ m.pages.layout → ps.pages ≡ unmap_frame m.pages.pages owner page
    → NotesPages m.pages.layout 2 was mid ps.pages m.pages.pages
    → zone ≡ zone_of m.layout (state_of m) frame
    → IsGiven (given_back m.frames.cpus.layout (free_of m.frames) cpu zone frame 0)
    (give_back_bound m.frames.cpus.layout (free_of m.frames) cpu zone frame 0) m.frames f mid now
    → IsAnswered m (Unmap owner page) (asked m.layout (state_of m) cpu (Unmap owner page))
    (record m { frames = f; pages = ps }) before now.deltas Done
unmap-done m f ps cpu owner page frame zone was mid now p low small is none layout_is set_is notes zone_is g =
    unmap-done-in m f ps cpu owner page frame was mid now p low small is none layout_is set_is notes
    (rw (← zone_is) g)

-- ---- Write

pub write-done : {before : List Delta} (m : Layers) (ps : PagesValue) (owner page index value : ℕ)
    (was now : TapeValue)
    → ArePlaced m → IsWord m.layout m.pages.pages.table owner page index → was.deltas ≡ before
    → ps.layout ≡ m.pages.layout → ps.pages ≡ write_frame m.pages.layout m.pages.pages owner page index value
    → NotesPages m.pages.layout 1 was now ps.pages m.pages.pages
    → IsAnswered m (Write owner page index value) (asked m.layout (state_of m) 0
    (Write owner page index value)) (record m { pages = ps }) before now.deltas Done
write-done {before} m ps owner page index value was now p word none layout_is set_is notes =
    let l = m.layout in
    let s = state_of m in
    let v = view_of m in
    let answers : asked l s 0 (Write owner page index value)
    ≡ done (with_pages s (write_word s.pages owner page index value)) =
    rw (
      lt-leb l.owners owner word.owner_low,
      lt-leb l.pages page word.page_low,
      lt-leb l.words index word.index_low,
      word.mapped,
    ) refl in
    let written =
    view-write_word l s.pages owner page word.frame index value (pages_once m p) word.owner_low word.page_low
    word.mapped in
    let seen : ps.pages ≡ page_frames_of l (write_word s.pages owner page index value) =
    set_is ∙ (ap (λ (k : LayoutParts). write_frame k m.pages.pages owner page index value) p.one.pages
    ∙ ap (λ (q : PageFrames). write_frame l q owner page index value) (pages_seen m p) ∙ sym written) in
    let first =
    notes-pages v l 1 was now ps.pages m.pages.pages
    (subst (λ (k : LayoutParts). NotesPages k 1 was now ps.pages m.pages.pages) p.one.pages notes) in
    rw answers (record {
      led = record {
        one = both-one m m.frames ps p refl (p.one.buddy ∙ sym p.one.cpus) layout_is;
        layout = refl;
        view = ap (λ (q : PageFrames). record v { pages = q }) seen;
      };
      reply = refl;
      noted = noted l _ _ was now _ _ none (omega arith) first;
    })

-- ---- Read

pub read-done : (m : Layers) (owner page index value : ℕ) (deltas : List Delta) → ArePlaced m
    → IsWord m.layout m.pages.pages.table owner page index
    → value ≡ slice_index (unwrap_or (words_of m.pages.layout m.pages.pages owner page) []) index
    → IsAnswered m (Read owner page index) (asked m.layout (state_of m) 0 (Read owner page index)) m deltas
    deltas (Word value)
read-done m owner page index value deltas p word read =
    let l = m.layout in
    let s = state_of m in
    let seen : value ≡ read_word s.pages owner page index =
    read ∙ (ap (λ (k : LayoutParts). slice_index (unwrap_or (words_of k m.pages.pages owner page) []) index)
    p.one.pages
    ∙ (ap (λ (q : PageFrames). slice_index (unwrap_or (words_of l q owner page) []) index) (pages_seen m p)
    ∙ view-read_word l s.pages owner page word.frame index (pages_once m p) word.mapped)) in
    let answers : asked l s 0 (Read owner page index)
    ≡ record { memory = s; reply = Word (read_word s.pages owner page index) } =
    rw (
      lt-leb l.owners owner word.owner_low,
      lt-leb l.pages page word.page_low,
      lt-leb l.words index word.index_low,
      word.mapped,
    ) refl in
    unchanged m (Read owner page index) _ deltas deltas (Word value) p
    (answers ∙ ap (λ (n : ℕ). record { memory = s; reply = Word n }) (sym seen)) refl
