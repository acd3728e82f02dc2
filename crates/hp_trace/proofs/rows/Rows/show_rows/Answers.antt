use Rattle.hp_trace.proofs.RowsJoined.{rows_more, rows_none}
use Rattle.hp_trace.proofs.rows.Rows.show_rows.Goals as goal

pub loop-row-init : goal.loop-row-init
loop-row-init c = rows_none c.args.self.now

pub loop-row-preserved : goal.loop-row-preserved
loop-row-preserved c =
    rows_more c.loop-row.yielded c.in-Some.row c.args.self.now c.loop-row.self c.show_row.new.self
    c.loop-row.invariant c.in_ok-show_row.ensures
