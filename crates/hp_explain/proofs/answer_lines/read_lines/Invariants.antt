use Rattle.hp_explain.proofs.AnswersRead.{IsReadUpTo}
use Rattle.hp_explain.proofs.answer_lines.read_lines.Given as goal

abbrev pub invariant-loop-index : goal.invariant-loop-index
invariant-loop-index l = IsReadUpTo l.rest l.index l.seen.items
