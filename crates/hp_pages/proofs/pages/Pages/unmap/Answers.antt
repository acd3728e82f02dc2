use Rattle.std.proofs.Common.{◌≡◌, None, Some, ap, sym, ◌∙◌}
use Rattle.hp_units.specs.Memory.{entry_of, with_entry}
use Rattle.hp_tape.specs.Deltas.{FitsPages, IsOfPages, PageFrames, pages_undo}
use Rattle.hp_tape.proofs.Leads.{notes-append}
use Rattle.hp_pages.proofs.PageCalls.{settled-unmap}
use Rattle.hp_pages.proofs.pages.Pages.unmap.Goals as goal

pub returns-clause-settled : goal.returns-clause-settled
returns-clause-settled c =
    let frame = c.unwrap-frame.result in
    let mapped : entry_of c.args.self.now.pages.table c.args.owner c.args.page ≡ Some frame =
    sym c.frame_at.ensures.frame ∙ c.unwrap-frame.ensures in
    let is =
    c.clear_entry.ensures.cleared ∙ ap (λ (w : PageFrames).
    record w { table = with_entry w.table c.args.owner c.args.page None }) c.empty.ensures.emptied in
    rw is (settled-unmap c.args.self.now.layout c.args.self.now.pages c.args.owner c.args.page frame
    c.frame_at.ensures.pages c.requires.settled c.requires.owner c.requires.page mapped)

pub returns-clause-notes : goal.returns-clause-notes
returns-clause-notes c =
    notes-append IsOfPages FitsPages pages_undo c.args.self.now.layout 1 1 c.args.tape.now c.empty.new.tape
    c.clear_entry.new.tape
    c.clear_entry.new.self.pages c.empty.new.self.pages c.args.self.now.pages c.empty.ensures.notes
    (rw (← c.empty.ensures.layout) c.clear_entry.ensures.notes)
