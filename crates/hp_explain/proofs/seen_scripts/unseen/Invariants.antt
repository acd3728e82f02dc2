use Rattle.hp_explain.specs.AnswerObjects.{AreUnseen}
use Rattle.hp_explain.proofs.seen_scripts.unseen.Given as goal

abbrev pub invariant-loop-cpu : goal.invariant-loop-cpu
invariant-loop-cpu l = AreUnseen l._cpu l.seen.items
