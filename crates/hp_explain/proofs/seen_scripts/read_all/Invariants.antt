use Rattle.std.proofs.Common.{length}
use Rattle.hp_explain.proofs.ObjectsTaken.{AreTakenUpTo}
use Rattle.hp_explain.proofs.seen_scripts.read_all.Given as goal

abbrev pub invariant-loop-index : goal.invariant-loop-index
invariant-loop-index l = AreTakenUpTo l.lines l.index (length l.scripts) l.seen
