use Rattle.std.proofs.Common.{◌≤◌, ◌+◌, ◌*◌}
use Rattle.hp_svg.proofs.moves.write_moves.Given as goal

abbrev pub invariant-loop-row : goal.invariant-loop-row
invariant-loop-row l = record {
  low : l.top ≤ l.row-index * 1099511627776;
  near : l.above ≤ l.top + 28;
}
