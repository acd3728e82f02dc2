use Rattle.std.proofs.Common.{string_bytes, sym}
use Rattle.std.proofs.lemmas.Result.{on_ok_weaker}
use Rattle.hp_trace.proofs.RowTexts.{row_written}
use Rattle.hp_trace.proofs.rows.Rows.write_text.Goals as goal

pub returns : goal.returns
returns c =
    on_ok_weaker c.write_row.result
    (λ written.
    row_written c.args.row.now c.args.self.now _ (string_bytes c.write_row.new.out) c.self.inside.kept.items
    (sym c.self.view_is) written) c.write_row.ensures
