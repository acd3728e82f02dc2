use Rattle.std.proofs.Common.{◌≡◌, ◌++◌, map}
use Rattle.hp_trace.specs.Rows.{line_rows}
use Rattle.hp_trace.proofs.rows.keep_lines.Given as goal

abbrev pub invariant-loop-line : goal.invariant-loop-line
invariant-loop-line l =
    l.kept.items ≡ l.fn.kept.items ++ line_rows (map (λ line. line.now) l.yielded)
