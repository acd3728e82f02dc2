-- One line more.
use Rattle.hp_questions.proofs.Below.{read_here}
use Rattle.hp_questions.proofs.MarksMade.{met_more}
use Rattle.hp_questions.proofs.marks.push_met.Goals as goal

pub loop-index-preserved : goal.loop-index-preserved
loop-index-preserved c =
    met_more c.args.cpus c.args.scripts.now c.args.wanted.now c.args.processors c.args.records.now
    c.loop-index.index c.index-wanted-index.result c.in_ok-is_met.is_met c.from.result _ _ _
    (read_here _ _ _ c.loop-index-test.true c.index-wanted-index.is) c.loop-index.invariant
    c.in_ok-push.ensures.items c.from.ensures (rw c.line_of-line.ensures at c.in_ok-is_met.ensures)
