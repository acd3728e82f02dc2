use Rattle.std.proofs.Common.{◌≡◌, ◌<◌, ℕ, Some, set, subst, sym, ap}
use Rattle.std.proofs.lemmas.List.{length-replicate, length-set}
use Rattle.hp_units.specs.LayoutParts.{LayoutParts}
use Rattle.hp_units.specs.Arithmetic.{frame_count}
use Rattle.hp_units.specs.Pages.{fresh_words}
use Rattle.hp_tape.specs.Deltas.{with_buffer}
use Rattle.hp_tape.specs.Tapes.{NotesPages}
use Rattle.hp_pages.specs.Pages.{PagesValue, write_at}
use Rattle.hp_pages.proofs.WordCalls.{notes-fill, written-fill}
use Rattle.hp_pages.proofs.PageParts.{AreSized, layer-buffer, sized_of}
use Rattle.hp_pages.proofs.pages.Pages.fill.Goals as goal

pub returns-clause-written : goal.returns-clause-written
returns-clause-written c =
    let l = c.args.self.now.layout in
    let v = c.args.self.now.pages in
    rw (c.put.ensures, c.set.ensures, c.requires.words)
    (subst (λ (p : PagesValue). with_buffer p.pages c.args.frame
    (Some (set (fresh_words l) c.args.index c.args.value)) ≡ write_at l v c.args.frame c.args.index
    c.args.value) (sym c.self.view_is)
    (written-fill l v c.args.frame c.args.index c.args.value c.requires.index c.requires.none
    c.requires.some))

pub returns-clause-notes : goal.returns-clause-notes
returns-clause-notes c =
    let l = c.args.self.now.layout in
    let v = c.args.self.now.pages in
    let sized =
    subst (λ (p : PagesValue). AreSized p.layout p.pages) c.self.view_is (sized_of c.self.inside.layout
    c.self.inside.table c.self.inside.buffers c.self.inside.zeros c.self.invariant) in
    rw (c.put.ensures, c.set.ensures, c.requires.words)
    (subst (λ (p : PagesValue). NotesPages l 1 c.args.tape.now c.note.new.self (with_buffer p.pages
    c.args.frame (Some (set (fresh_words l) c.args.index c.args.value))) v) (sym c.self.view_is)
    (notes-fill l v c.args.frame c.args.index c.args.value c.args.tape.now c.note.new.self sized
    c.requires.frame c.requires.index c.requires.none c.note.ensures.room c.note.ensures.noted))

pub invariant_of-self : goal.invariant_of-self
invariant_of-self c =
    let l = c.self.inside.layout in
    let same : c.args.self.now.layout ≡ l = sym (ap (λ (p : PagesValue). p.layout) c.self.view_is) in
    layer-buffer l c.self.inside.table c.self.inside.buffers c.put.new.self c.self.inside.zeros c.args.frame
    (Some c.set.new.self) c.self.invariant
    (subst (λ (k : LayoutParts). c.args.frame < frame_count k) same c.requires.frame)
    (rw (c.set.ensures, length-set c.args.words c.args.index c.args.value, c.requires.words)
    (rw (length-replicate {A = ℕ} c.args.self.now.layout.words 0, same)))
    c.put.ensures
