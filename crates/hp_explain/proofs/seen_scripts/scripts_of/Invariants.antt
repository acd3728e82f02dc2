use Rattle.hp_explain.proofs.ObjectsTaken.{AreFilledUpTo}
use Rattle.hp_explain.proofs.seen_scripts.scripts_of.Given as goal

abbrev pub invariant-loop-cpu : goal.invariant-loop-cpu
invariant-loop-cpu l = AreFilledUpTo l.scripts l.fn.seen l.cpu l.seen l.observed.items
