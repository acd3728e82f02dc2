use Rattle.std.proofs.Common.{◌≤◌, length}
use Rattle.hp_map.proofs.BlocksCompared.{Compared}
use Rattle.hp_map.proofs.block_picture.are_equal.Given as goal

abbrev pub invariant-loop-block : goal.invariant-loop-block
invariant-loop-block l = record {
  low : l.block-index ≤ length l.some;
  compared : Compared (λ block. block) l.some l.others l.left l.block-index;
}
