use Rattle.std.proofs.Common.{ap, ◌∙◌}
use Rattle.hp_units.specs.declared.rows.Kind.{Kind}
use Rattle.hp_tape.specs.declared.deltas.Delta.TheVariants.{Kind as KindDelta}
use Rattle.hp_buddy.proofs.Notes.{seen-kind}
use Rattle.hp_buddy.proofs.buddy.Buddy.set_kind.Goals as goal

pub returns-clause-notes : goal.returns-clause-notes
returns-clause-notes c =
    let b = c.self.inside in
    seen-kind c.args.self.now b.layout b.links b.kinds.items c.args.pageblock c.pageblock.inside.0 c.args.kind
    c.args.tape.now c.note.new.self c.kind_delta.result
    (record { is = c.self.view_is; kept = c.self.invariant }) c.pageblock.view_is c.requires.pageblock
    c.note.ensures.room c.note.ensures.noted
    (c.kind_delta.ensures ∙ ap (λ (k : Kind). KindDelta c.args.pageblock k c.args.kind) c.kind-was.ensures)
