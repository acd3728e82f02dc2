use Rattle.std.proofs.Common.{◌≤◌, ◌*◌}
use Rattle.hp_svg.proofs.rows.write_rows.Given as goal

abbrev pub invariant-loop-row : goal.invariant-loop-row
invariant-loop-row l = l.top ≤ l.row-index * 1099511627776
