use Rattle.hp_trace.specs.Rows.{AreRowsShown}
use Rattle.hp_trace.proofs.rows.Rows.show_rows.Given as goal

abbrev pub invariant-loop-row : goal.invariant-loop-row
invariant-loop-row l = AreRowsShown l.yielded l.fn.self l.self
