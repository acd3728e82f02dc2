use Rattle.std.proofs.Common.{◌++◌, ◌∷◌, []}
use Rattle.hp_tape.specs.declared.deltas.Delta.{Delta}
use Rattle.std.proofs.Common.{◌≡◌, ◌<◌, ℕ, Option, None, Some, get_or, set, refl, ap, subst, sym, ◌∙◌, arith}
use Rattle.std.specs.Option.{option_map_or}
use Rattle.hp_units.specs.Memory.{entry_of}
use Rattle.hp_units.specs.Pages.{page_from}
use Rattle.hp_units.specs.LayoutParts.{LayoutParts}
use Rattle.hp_units.specs.Arithmetic.{frame_count}
use Rattle.hp_tape.specs.Tapes.{NotesPages}
use Rattle.hp_pages.specs.Pages.{AreSettled, PagesValue, move_entry, move_frame}
use Rattle.hp_pages.specs.Places.{TableValue}
use Rattle.hp_pages.proofs.PageCalls.{notes-move, settled-move}
use Rattle.hp_pages.proofs.PageParts.{first_page, layer-buffer, layer-entry}
use Rattle.hp_pages.proofs.pages.Pages.move_page.Goals as goal

pub set-requires-clause-owner : goal.set-requires-clause-owner
set-requires-clause-owner c =
    let page = c.unwrap-owner.result in
    let is =
    first_page c.args.self.now.layout c.args.self.now.pages c.args.from page c.page_at.ensures.pages
    (sym c.page_at.ensures.page ∙ c.unwrap-owner.ensures) in
    let in_owners = subst (λ (v : PagesValue). page.0 < v.layout.owners) (sym c.self.view_is) is.in_owners in
    omega (arith, in_owners, c.self.invariant.owners)

pub set-requires-clause-page : goal.set-requires-clause-page
set-requires-clause-page c =
    let page = c.unwrap-owner.result in
    let is =
    first_page c.args.self.now.layout c.args.self.now.pages c.args.from page c.page_at.ensures.pages
    (sym c.page_at.ensures.page ∙ c.unwrap-owner.ensures) in
    let in_pages = subst (λ (v : PagesValue). page.1 < v.layout.pages) (sym c.self.view_is) is.in_pages in
    omega (arith, in_pages, c.self.invariant.pages)

pub set-requires-clause-was : goal.set-requires-clause-was
set-requires-clause-was c =
    let page = c.unwrap-owner.result in
    let is =
    first_page c.args.self.now.layout c.args.self.now.pages c.args.from page c.page_at.ensures.pages
    (sym c.page_at.ensures.page ∙ c.unwrap-owner.ensures) in
    subst (λ (v : PagesValue). entry_of v.pages.table page.0 page.1 ≡ Some c.args.from) (sym c.self.view_is)
    is.entry

pub returns-clause-settled : goal.returns-clause-settled
returns-clause-settled c =
    let page = c.unwrap-owner.result in
    let is =
    first_page c.args.self.now.layout c.args.self.now.pages c.args.from page c.page_at.ensures.pages
    (sym c.page_at.ensures.page ∙ c.unwrap-owner.ensures) in
    let rows = ap (λ (t : TableValue). t.rows) c.set.ensures.set in
    rw (rows, c.swap.ensures) (subst (λ (v : PagesValue).
    AreSettled (move_entry v.pages page.0 page.1 c.args.from c.args.to)) (sym c.self.view_is)
    (settled-move c.args.self.now.layout c.args.self.now.pages page.0 page.1 c.args.from c.args.to
    c.page_at.ensures.pages c.requires.settled
    c.requires.from c.requires.to is.entry c.requires.free is.in_owners is.in_pages))

pub returns-clause-notes : goal.returns-clause-notes
returns-clause-notes c =
    let page = c.unwrap-owner.result in
    let is =
    first_page c.args.self.now.layout c.args.self.now.pages c.args.from page c.page_at.ensures.pages
    (sym c.page_at.ensures.page ∙ c.unwrap-owner.ensures) in
    rw (ap (λ (t : TableValue). t.rows) c.set.ensures.set, c.swap.ensures)
    (subst (λ (v : PagesValue). NotesPages c.args.self.now.layout 2 c.args.tape.now c.note-2.new.self
    (move_entry v.pages page.0 page.1 c.args.from c.args.to) c.args.self.now.pages) (sym c.self.view_is)
    (notes-move c.args.self.now.layout c.args.self.now.pages page.0 page.1 c.args.from c.args.to _
    c.note.new.self _ c.page_at.ensures.pages c.requires.settled
    c.requires.from c.requires.to is.entry c.requires.free is.in_owners is.in_pages c.note.ensures.room
    c.note.ensures.noted c.note-2.ensures.room (c.note-2.ensures.noted
    ∙ ap (λ (d : Delta). c.note.new.self.deltas ++ d ∷ []) c.of_page.ensures)))

pub of_page-requires-clause-owner : goal.of_page-requires-clause-owner
of_page-requires-clause-owner c =
    let page = c.unwrap-owner.result in
    let is =
    first_page c.args.self.now.layout c.args.self.now.pages c.args.from page c.page_at.ensures.pages
    (sym c.page_at.ensures.page ∙ c.unwrap-owner.ensures) in
    let in_owners = subst (λ (v : PagesValue). page.0 < v.layout.owners) (sym c.self.view_is) is.in_owners in
    omega (arith, in_owners, c.self.invariant.owners, c.set.ensures.was_table.owners)

pub of_page-requires-clause-page : goal.of_page-requires-clause-page
of_page-requires-clause-page c =
    let page = c.unwrap-owner.result in
    let is =
    first_page c.args.self.now.layout c.args.self.now.pages c.args.from page c.page_at.ensures.pages
    (sym c.page_at.ensures.page ∙ c.unwrap-owner.ensures) in
    let in_pages = subst (λ (v : PagesValue). page.1 < v.layout.pages) (sym c.self.view_is) is.in_pages in
    omega (arith, in_pages, c.self.invariant.pages, c.set.ensures.was_table.pages)

pub returns-clause-moved : goal.returns-clause-moved
returns-clause-moved c =
    let page = c.unwrap-owner.result in
    let v = c.args.self.now.pages in
    let first : page_from 0 v.table c.args.from ≡ Some page =
    sym c.page_at.ensures.page ∙ c.unwrap-owner.ensures in
    let rows = ap (λ (t : TableValue). t.rows) c.set.ensures.set in
    rw (rows, c.swap.ensures) (subst (λ (w : PagesValue).
    move_entry w.pages page.0 page.1 c.args.from c.args.to ≡ move_frame v c.args.from c.args.to)
    (sym c.self.view_is) (sym (ap (λ (o : Option (ℕ × ℕ)).
    option_map_or (λ p. move_entry v p.0 p.1 c.args.from c.args.to) o v) first)))

pub returns-clause-layout : goal.returns-clause-layout
returns-clause-layout c = ap (λ (w : PagesValue). w.layout) c.self.view_is

pub invariant_of-self : goal.invariant_of-self
invariant_of-self c =
    let same : c.args.self.now.layout ≡ c.self.inside.layout = rw (← c.self.view_is) in
    let from_is = get_or c.self.inside.buffers c.args.from None in
    let to_is = get_or c.self.inside.buffers c.args.to None in
    let one = set c.self.inside.buffers c.args.from to_is in
    let swapped =
    layer-buffer c.self.inside.layout c.self.inside.table one c.swap.new.self c.self.inside.zeros c.args.to
    from_is (layer-buffer c.self.inside.layout c.self.inside.table c.self.inside.buffers one
    c.self.inside.zeros c.args.from to_is c.self.invariant
    (subst (λ (l : LayoutParts). c.args.from < frame_count l) same c.requires.from)
    (c.self.invariant.words c.args.to) refl)
    (subst (λ (l : LayoutParts). c.args.to < frame_count l) same c.requires.to)
    (c.self.invariant.words c.args.from) c.swap.ensures in
    layer-entry c.self.inside.layout c.self.inside.table c.set.new.self c.swap.new.self c.self.inside.zeros
    c.unwrap-owner.result.0 c.unwrap-owner.result.1 (Some c.args.to) swapped c.set.ensures.set
