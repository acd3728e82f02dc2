use Rattle.hp_pages.proofs.RowNotes.{notes-auto}
use Rattle.hp_pages.proofs.blocks.Blocks.set_auto.Goals as goal

pub returns-clause-notes : goal.returns-clause-notes
returns-clause-notes c =
    rw (c.replace-was.ensures.after, ← c.self.view_is) (notes-auto c.self.inside.layout
    (record { rows = c.self.inside.rows.items; auto = c.self.inside.auto }) c.args.auto _ _
    c.note.ensures.room (rw c.replace-was.ensures.value at c.note.ensures.noted))
