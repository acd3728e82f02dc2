use Rattle.hp_judge.specs.Logs.{allocs_at}
use Rattle.hp_judge.proofs.StepWalks.{items_more}
use Rattle.hp_judge.proofs.step_logs.push_allocs.Goals as goal

pub loop-number-preserved : goal.loop-number-preserved
loop-number-preserved c = λ s t p q.
    items_more (allocs_at c.args.layout.now s t) c.loop-number.number _ _ _ (c.loop-number.invariant s t p q)
    (c.in_ok-push_allocated.ensures s t p q)
