use Rattle.hp_explain.proofs.AnswersRead.{AreReadUpTo}
use Rattle.hp_explain.proofs.answer_lines.read_words.Given as goal

abbrev pub invariant-loop-cpu : goal.invariant-loop-cpu
invariant-loop-cpu l = AreReadUpTo l.lines l.scripts l.cpu l.place l.seen.items
