-- The lines of the processors so far are over.
use Rattle.hp_explain.proofs.Runs.{AreOverBelow}
use Rattle.hp_explain.proofs.explainer.Explainer.are_all_over.Given as goal

abbrev pub invariant-loop-cpu : goal.invariant-loop-cpu
invariant-loop-cpu l =
    AreOverBelow l.fn.path.setting l.fn.self.seen.now l.fn.path.news l.fn.time l.cpu
