use Rattle.std.proofs.Common.{map}
use Rattle.hp_trace.specs.Rows.{AreJoinedTo, line_rows}
use Rattle.hp_trace.proofs.rows.Rows.join_lines.Given as goal

abbrev pub invariant-loop-line : goal.invariant-loop-line
invariant-loop-line l = AreJoinedTo (line_rows (map (λ line. line.now) l.yielded)) l.fn.self l.self
