use Rattle.std.proofs.Common.{◌∙◌, sym, string_bytes}
use Rattle.std.proofs.lemmas.Result.{on_ok_weaker}
use Rattle.hp_trace.proofs.RowsJoined.{line_shown, row_shown}
use Rattle.hp_trace.proofs.rows.Rows.show_row.Goals as goal

pub returns-then-is_line : goal.returns-then-is_line
returns-then-is_line c =
    on_ok_weaker c.writeln.result
    (λ is.
    line_shown c.args.row c.args.self.now _ (string_bytes c.writeln.new.self) c.asked-line.result.now
    (sym c.self.view_is) (sym c.is_line.ensures ∙ c.if-is_line.true) c.asked-line.ensures is)
    c.writeln.ensures.bytes

pub returns : goal.returns
returns c =
    on_ok_weaker c.write.result
    (λ w.
    row_shown c.args.row c.args.self.now c.write.new.self (sym c.is_line.ensures ∙ c.if-is_line.false) w)
    c.write.ensures
