-- One end more that is not as wanted; else it is the one.
use Rattle.hp_questions.specs.PlanLines.{IsEndAsWanted}
use Rattle.hp_questions.proofs.Below.{none_has, none_more, one_has}
use Rattle.hp_questions.proofs.plan_lines.EndPattern.is_among.Goals as goal

pub loop-index-preserved : goal.loop-index-preserved
loop-index-preserved c = record {
  none = none_more (IsEndAsWanted c.args.self.now) _ _ _ c.loop-index-test.true c.index-ends-index.is
      c.if-is_met_by.ensures c.loop-index.invariant.none;
}

pub returns-then-is_met_by : goal.returns-then-is_met_by
returns-then-is_met_by c =
    one_has (IsEndAsWanted c.args.self.now) _ _ _ c.loop-index-test.true c.index-ends-index.is
    (c.is_met_by.ensures.0 c.if-is_met_by.true)

pub returns : goal.returns
returns c =
    none_has (IsEndAsWanted c.args.self.now) _ _ c.loop-index-test.false c.loop-index.invariant.none
