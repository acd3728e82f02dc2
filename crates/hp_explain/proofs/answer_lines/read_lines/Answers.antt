-- One more answer.
use Rattle.std.proofs.Common.{arith}
use Rattle.hp_explain.proofs.AnswersRead.{read_more}
use Rattle.hp_explain.proofs.answer_lines.read_lines.Goals as goal

pub loop-index-preserved : goal.loop-index-preserved
loop-index-preserved c =
    read_more _ _ _ _ _ (omega arith) (c.in_ok-push_answer.ensures c.if-not-branch.false)
    c.loop-index.invariant
