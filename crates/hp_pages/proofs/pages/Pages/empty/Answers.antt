use Rattle.std.proofs.Common.{◌≡◌, None, Some, subst, sym, ◌∙◌}
use Rattle.hp_tape.specs.Deltas.{buffer_of, with_buffer}
use Rattle.hp_tape.specs.Tapes.{NotesPages}
use Rattle.hp_pages.specs.Pages.{PagesValue}
use Rattle.hp_pages.proofs.PageCalls.{kept-none, notes-empty, notes-nothing}
use Rattle.hp_pages.proofs.PageParts.{AreSized, sized_of}
use Rattle.hp_pages.proofs.pages.Pages.empty.Goals.{in-Some, in_default}
use Rattle.hp_pages.proofs.pages.Pages.empty.Goals as goal

pub returns-clause-notes : goal.returns-clause-notes
returns-clause-notes c =
    let l = c.args.self.now.layout in
    let v = c.args.self.now.pages in
    let sized =
    subst (λ (p : PagesValue). AreSized p.layout p.pages) c.self.view_is (sized_of c.self.inside.layout
    c.self.inside.table c.self.inside.buffers c.self.inside.zeros c.self.invariant) in
    elim c.match-take.branch [
      | in-Some w ↦
          let there =
          subst (λ (p : PagesValue). buffer_of p.pages c.args.frame ≡ Some w.in-Some.words) c.self.view_is
          (sym c.take.ensures.taken ∙ w.in-Some.is) in
          rw (c.take.ensures.gone, w.tape-is)
          (subst (λ (p : PagesValue). NotesPages l 1 c.args.tape.now w.note.new.self
          (with_buffer p.pages c.args.frame None) v) (sym c.self.view_is)
          (notes-empty l v c.args.frame w.in-Some.words c.args.tape.now w.note.new.self sized c.requires.frame
          there w.note.ensures.room w.note.ensures.noted))
      | in_default w ↦
          let none =
          subst (λ (p : PagesValue). buffer_of p.pages c.args.frame ≡ None) c.self.view_is
          (sym c.take.ensures.taken ∙ w.in_default.is) in
          rw (c.take.ensures.gone, w.tape-is)
          (subst (λ (p : PagesValue). NotesPages l 1 c.args.tape.now c.args.tape.now
          (with_buffer p.pages c.args.frame None) v) (sym c.self.view_is)
          (notes-nothing l v (with_buffer v c.args.frame None) c.args.tape.now
          (kept-none v c.args.frame none)))
    ]
