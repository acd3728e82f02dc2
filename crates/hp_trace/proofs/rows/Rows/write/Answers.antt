use Rattle.std.proofs.Common.{sym}
use Rattle.hp_trace.proofs.RowTexts.{row_kept}
use Rattle.hp_trace.proofs.rows.Rows.write.Goals as goal

pub returns : goal.returns
returns c =
    row_kept c.args.row c.args.self.now c.write_text.new.self _ c.push.new.self.items (sym c.self.view_is)
    c.in_ok-write_text.ensures
