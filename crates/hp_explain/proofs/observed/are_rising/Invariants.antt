-- The lines so far rise.
use Rattle.hp_explain.proofs.Rising.{RiseUpTo}
use Rattle.hp_explain.proofs.observed.are_rising.Given as goal

abbrev pub invariant-loop-index : goal.invariant-loop-index
invariant-loop-index l = RiseUpTo l.fn.lines l.index
