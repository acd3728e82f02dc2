use Rattle.std.proofs.Common.{sym}
use Rattle.hp_trace.proofs.RowTexts.{from_both, row_told}
use Rattle.hp_trace.proofs.rows.Rows.tell_row.Goals as goal

pub returns : goal.returns
returns c =
    from_both c.draw.result _ _ _
    (λ line seen. row_told c.args.machine.now c.args.self.now _ c.draw.new.self (sym c.self.view_is) line
    seen) c.draw.ensures.line c.draw.ensures.seen
