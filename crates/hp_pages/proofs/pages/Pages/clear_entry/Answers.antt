use Rattle.std.proofs.Common.{◌++◌, ◌∷◌, [], ◌∙◌}
use Rattle.hp_tape.specs.declared.deltas.Delta.{Delta}
use Rattle.std.proofs.Common.{None, ap, subst, sym}
use Rattle.hp_units.specs.Memory.{with_entry}
use Rattle.hp_tape.specs.Tapes.{NotesPages}
use Rattle.hp_pages.specs.Pages.{ArePageFramesOf, PagesValue}
use Rattle.hp_pages.specs.Places.{TableValue}
use Rattle.hp_pages.proofs.PageCalls.{notes-clear}
use Rattle.hp_pages.proofs.PageParts.{are_of, layer-entry}
use Rattle.hp_pages.proofs.pages.Pages.clear_entry.Goals as goal

pub returns-clause-notes : goal.returns-clause-notes
returns-clause-notes c =
    let l = c.args.self.now.layout in
    let v = c.args.self.now.pages in
    let are = subst (λ (p : PagesValue). ArePageFramesOf p.layout p.pages) c.self.view_is
    (are_of c.self.inside.layout c.self.inside.table c.self.inside.buffers c.self.inside.zeros
    c.self.invariant c.set.ensures.was_table) in
    let rows = ap (λ (t : TableValue). t.rows) c.set.ensures.set in
    rw rows (subst (λ (p : PagesValue). NotesPages l 1 c.args.tape.now c.note.new.self
    (record p.pages { table = with_entry p.pages.table c.args.owner c.args.page None }) v) (sym
    c.self.view_is)
    (notes-clear l v c.args.owner c.args.page c.args.frame c.args.tape.now c.note.new.self are
    c.requires.owner c.requires.page c.requires.frame c.requires.mapped
    c.note.ensures.room (c.note.ensures.noted
    ∙ ap (λ (d : Delta). c.args.tape.now.deltas ++ d ∷ []) c.of_page.ensures)))

pub invariant_of-self : goal.invariant_of-self
invariant_of-self c =
    layer-entry c.self.inside.layout c.self.inside.table c.set.new.self c.self.inside.buffers
    c.self.inside.zeros c.args.owner c.args.page None c.self.invariant c.set.ensures.set
