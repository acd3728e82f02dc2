use Rattle.std.proofs.Common.{◌≡◌, ◌<◌, List, ℕ, set, refl, ap, subst, sym, ◌∙◌, [], ◌∷◌, ◌++◌}
use Rattle.std.specs.Prelude.{option_map}
use Rattle.hp_units.specs.LayoutParts.{LayoutParts}
use Rattle.hp_units.specs.Arithmetic.{frame_count}
use Rattle.hp_tape.specs.declared.deltas.Delta.{Delta}
use Rattle.hp_tape.specs.Deltas.{buffer_of, with_buffer}
use Rattle.hp_tape.specs.Tapes.{NotesPages}
use Rattle.hp_pages.specs.Pages.{PagesValue}
use Rattle.hp_pages.proofs.WordCalls.{notes-changed}
use Rattle.hp_pages.proofs.PageParts.{AreSized, layer-buffer, same-size, sized_of, view_of}
use Rattle.hp_pages.proofs.pages.Pages.set_word.Goals as goal

pub returns-clause-notes : goal.returns-clause-notes
returns-clause-notes c =
    let l = c.args.self.now.layout in
    let v = c.args.self.now.pages in
    let sized =
    subst (λ (p : PagesValue). AreSized p.layout p.pages) c.self.view_is (sized_of c.self.inside.layout
    c.self.inside.table c.self.inside.buffers c.self.inside.zeros c.self.invariant) in
    rw c.set_word.ensures
    (subst (λ (p : PagesValue). NotesPages l 1 c.args.tape.now c.note.new.self (with_buffer p.pages
    c.args.frame
    (option_map (λ (ws : List ℕ). set ws c.args.index c.args.value) (buffer_of p.pages c.args.frame))) v)
    (sym c.self.view_is)
    (notes-changed l v c.args.frame c.args.index c.args.value (buffer_of v c.args.frame)
    c.args.tape.now c.note.new.self sized c.requires.frame c.requires.index refl c.requires.some
    c.note.ensures.room (c.note.ensures.noted
    ∙ ap (λ (d : Delta). c.args.tape.now.deltas ++ d ∷ []) c.requires.change)))

pub invariant_of-self : goal.invariant_of-self
invariant_of-self c =
    let same : c.args.self.now.layout ≡ c.self.inside.layout = rw (← c.self.view_is) in
    let buffer = buffer_of (view_of c.self.inside.table.rows c.self.inside.buffers) c.args.frame in
    layer-buffer c.self.inside.layout c.self.inside.table c.self.inside.buffers c.set_word.new.self
    c.self.inside.zeros c.args.frame
    (option_map (λ (ws : List ℕ). set ws c.args.index c.args.value) buffer) c.self.invariant
    (subst (λ (l : LayoutParts). c.args.frame < frame_count l) same c.requires.frame)
    (same-size buffer c.self.inside.layout.words c.args.index c.args.value
    (c.self.invariant.words c.args.frame)) c.set_word.ensures
