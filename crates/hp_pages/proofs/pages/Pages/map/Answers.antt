use Rattle.std.proofs.Common.{◌++◌, ◌∷◌, [], ◌∙◌}
use Rattle.hp_tape.specs.declared.deltas.Delta.{Delta}
use Rattle.std.proofs.Common.{Some, ap, subst, sym}
use Rattle.hp_tape.specs.Tapes.{NotesPages}
use Rattle.hp_pages.specs.Pages.{ArePageFramesOf, AreSettled, PagesValue, map_frame}
use Rattle.hp_pages.specs.Places.{TableValue}
use Rattle.hp_pages.proofs.PageCalls.{notes-map, settled-map}
use Rattle.hp_pages.proofs.PageParts.{are_of, layer-entry}
use Rattle.hp_pages.proofs.pages.Pages.map.Goals as goal

pub returns-clause-settled : goal.returns-clause-settled
returns-clause-settled c =
    let are = subst (λ (v : PagesValue). ArePageFramesOf v.layout v.pages) c.self.view_is
    (are_of c.self.inside.layout c.self.inside.table c.self.inside.buffers c.self.inside.zeros
    c.self.invariant c.set.ensures.was_table) in
    let rows = ap (λ (t : TableValue). t.rows) c.set.ensures.set in
    rw rows (subst (λ (v : PagesValue). AreSettled (map_frame v.pages c.args.owner c.args.page c.args.frame))
    (sym c.self.view_is)
    (settled-map c.args.self.now.layout c.args.self.now.pages c.args.owner c.args.page c.args.frame are
    c.requires.settled
    c.requires.owner c.requires.page c.requires.unmapped c.requires.free))

pub returns-clause-notes : goal.returns-clause-notes
returns-clause-notes c =
    let are = subst (λ (v : PagesValue). ArePageFramesOf v.layout v.pages) c.self.view_is
    (are_of c.self.inside.layout c.self.inside.table c.self.inside.buffers c.self.inside.zeros
    c.self.invariant c.set.ensures.was_table) in
    let rows = ap (λ (t : TableValue). t.rows) c.set.ensures.set in
    rw rows (subst (λ (v : PagesValue). NotesPages c.args.self.now.layout 1 c.args.tape.now c.note.new.self
    (map_frame v.pages c.args.owner c.args.page c.args.frame) c.args.self.now.pages) (sym c.self.view_is)
    (notes-map c.args.self.now.layout c.args.self.now.pages c.args.owner c.args.page c.args.frame _ _ are
    c.requires.settled
    c.requires.owner c.requires.page c.requires.frame c.requires.unmapped c.requires.free c.note.ensures.room
    (c.note.ensures.noted
    ∙ ap (λ (d : Delta). c.args.tape.now.deltas ++ d ∷ []) c.of_page.ensures)))

pub invariant_of-self : goal.invariant_of-self
invariant_of-self c =
    layer-entry c.self.inside.layout c.self.inside.table c.set.new.self c.self.inside.buffers
    c.self.inside.zeros c.args.owner c.args.page (Some c.args.frame) c.self.invariant c.set.ensures.set
