-- A record of the processor tells it one reply.
use Rattle.std.proofs.Common.{ap, length, sym, arith, ◌∙◌}
use Rattle.hp_questions.proofs.Marking.{count_own, told_past}
use Rattle.hp_questions.proofs.marks.calls_by.Goals as goal

pub loop-record-preserved-then-ne : goal.loop-record-preserved-then-ne
loop-record-preserved-then-ne c =
    let same =
    told_past c.args.cpu _ _ _ c.loop-record-test.true c.record-item.is (sym c.ne.ensures ∙ c.if-ne.true) in
    record { counted = omega (arith, ap length same); few = omega arith }

pub loop-record-preserved : goal.loop-record-preserved
loop-record-preserved c =
    let more =
    count_own c.args.cpu _ _ _ c.loop-record-test.true c.record-item.is (sym c.ne.ensures ∙ c.if-ne.false) in
    record { counted = omega (arith, more); few = omega arith }
