-- The lines of the processors so far are over.
use Rattle.hp_explain.proofs.Runs.{AreOverBelow}
use Rattle.hp_explain.proofs.standing.unfinished_before.Given as goal

abbrev pub invariant-loop-cpu : goal.invariant-loop-cpu
invariant-loop-cpu l = AreOverBelow l.path.setting l.seen l.path.news l.fn.time l.cpu
