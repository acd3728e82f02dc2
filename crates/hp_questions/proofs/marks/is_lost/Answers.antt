-- The line that rules it out.
use Rattle.hp_questions.proofs.Below.{read_here}
use Rattle.hp_questions.proofs.Marking.{lost}
use Rattle.hp_questions.proofs.marks.is_lost.Goals as goal

pub returns-then-is_ruled_out : goal.returns-then-is_ruled_out
returns-then-is_ruled_out c =
    λ told. lost c.args.wanted.now c.args.processors c.args.records.now c.loop-index.index
    c.index-wanted-index.result (read_here _ _ _ c.loop-index-test.true c.index-wanted-index.is)
    (c.is_ruled_out.ensures c.if-is_ruled_out.true)
