-- One line more that names nothing past the layout.
use Rattle.hp_questions.specs.Limits.{IsPast}
use Rattle.hp_questions.specs.declared.wanted.Wanted.{Wanted}
use Rattle.hp_questions.proofs.Below.{below_all, none_more}
use Rattle.hp_questions.proofs.limits.first_past.Goals as goal

pub loop-index-preserved : goal.loop-index-preserved
loop-index-preserved c = record {
  none = none_more (IsPast c.args.layout.now) _ _ _ c.loop-index-test.true c.index-wanted-index.is
      c.if-is_past.ensures c.loop-index.invariant.none;
}

pub returns-clause-none : goal.returns-clause-none
returns-clause-none c =
    below_all (λ (line : Wanted). IsPast c.args.layout.now line → ⊥) c.args.wanted.now c.loop-index.index
    c.loop-index-test.false c.loop-index.invariant.none
