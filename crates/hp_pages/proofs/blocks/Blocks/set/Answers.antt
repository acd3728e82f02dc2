use Rattle.std.proofs.Common.{◌≡◌, ◌<◌, ◌++◌, ◌∷◌, [], ◌∙◌, ap, subst, sym}
use Rattle.hp_units.specs.Memory.{row_of}
use Rattle.hp_units.specs.declared.rows.Row.{Row}
use Rattle.hp_tape.specs.RowChanges.{RowChangeValue}
use Rattle.hp_tape.specs.declared.deltas.Delta.TheVariants.{Row as RowDelta}
use Rattle.hp_pages.specs.Blocks.{BlocksValue}
use Rattle.hp_pages.proofs.RowNotes.{change_of, notes-row}
use Rattle.hp_pages.proofs.blocks.Blocks.set.Goals as goal

pub returns-clause-notes : goal.returns-clause-notes
returns-clause-notes c =
    let packed =
    c.new-change.ensures ∙ ap (λ (was : Row). change_of c.args.block was c.args.row) c.row.ensures.row in
    let noted =
    c.note.ensures.noted ∙ ap (λ (change : RowChangeValue). c.args.tape.now.deltas ++ RowDelta change ∷ [])
    packed in
    let lt =
    subst (λ (v : BlocksValue). c.args.block < v.layout.blocks) (sym c.self.view_is) c.requires.block in
    let told =
    subst (λ (v : BlocksValue). c.note.new.self.deltas ≡ c.args.tape.now.deltas
    ++ RowDelta (change_of c.args.block (row_of v.blocks c.args.block) c.args.row) ∷ [])
    (sym c.self.view_is) noted in
    rw (c.block.view_is, ← c.self.view_is)
    (notes-row c.self.inside.layout (record { rows = c.self.inside.rows.items; auto = c.self.inside.auto })
    c.args.block c.args.row _ _ c.self.invariant.rows lt c.note.ensures.room told)
