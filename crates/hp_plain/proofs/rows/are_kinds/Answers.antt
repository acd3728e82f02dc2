use Rattle.std.proofs.Common.{arith, ◌≡◌, ◌*◌, below_more}
use Rattle.hp_plain.proofs.PlacedRows.{all_kinds}
use Rattle.hp_plain.proofs.rows.are_kinds.Goals as goal

pub loop-number-preserved : goal.loop-number-preserved
loop-number-preserved c =
    below_more _ _ c.loop-number.invariant
    (rw (← c.kind_of.ensures, ← c.row_at-row.ensures) c.if-not-is_kind.ensures)

pub returns : goal.returns
returns c =
    let l = c.args.layout.now in
    let product : c.blocks-2.result * c.pageblocks.result ≡ l.blocks * l.pageblocks =
    rw (c.blocks-2.ensures.is, c.pageblocks.ensures.is) in
    all_kinds l c.args.kinds.now c.args.rows.now c.loop-number.number c.blocks-2.ensures.layout
    c.requires.kinds c.requires.rows (omega arith) c.loop-number.invariant
