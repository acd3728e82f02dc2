use Rattle.std.proofs.Common.{◌≤◌, length}
use Rattle.hp_map.specs.Rounds.{next_row}
use Rattle.hp_map.proofs.BlocksCompared.{Compared}
use Rattle.hp_map.proofs.rounds.are_next.Given as goal

abbrev pub invariant-loop-row : goal.invariant-loop-row
invariant-loop-row l = record {
  low : l.row-index ≤ length l.above;
  compared : Compared (next_row l.n l.memory) l.above l.rows l.left l.row-index;
}
