-- One processor more that had no such end; else it is the one.
use Rattle.hp_questions.specs.PlanLines.{HasEnd}
use Rattle.hp_questions.proofs.Below.{none_has, none_more, one_has}
use Rattle.hp_questions.proofs.plan_lines.EndPattern.is_among_all.Goals as goal

pub loop-index-preserved : goal.loop-index-preserved
loop-index-preserved c = record {
  none = none_more (HasEnd c.args.self.now) _ _ _ c.loop-index-test.true c.index-all-index.is
      (rw c.as_slice.ensures at c.if-is_among.ensures) c.loop-index.invariant.none;
}

pub returns-then-is_among : goal.returns-then-is_among
returns-then-is_among c =
    one_has (HasEnd c.args.self.now) _ _ _ c.loop-index-test.true c.index-all-index.is
    (rw c.as_slice.ensures at (c.is_among.ensures.0 c.if-is_among.true))

pub returns : goal.returns
returns c =
    none_has (HasEnd c.args.self.now) _ _ c.loop-index-test.false c.loop-index.invariant.none
