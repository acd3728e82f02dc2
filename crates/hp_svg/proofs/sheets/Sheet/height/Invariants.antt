use Rattle.std.proofs.Common.{◌≤◌, ◌*◌}
use Rattle.hp_svg.proofs.sheets.Sheet.height.Given as goal

abbrev pub invariant-loop-row : goal.invariant-loop-row
invariant-loop-row l = l.height ≤ l.row-index * 1099511627776
