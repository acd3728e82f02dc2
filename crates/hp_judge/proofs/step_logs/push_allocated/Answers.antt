use Rattle.std.proofs.lemmas.Result.{on_ok_weaker}
use Rattle.hp_judge.proofs.StepShown.{allocated}
use Rattle.hp_judge.proofs.step_logs.push_allocated.Goals as goal

pub returns : goal.returns
returns c =
    on_ok_weaker c.push_alloc.result
    (λ written. λ s t p q. allocated c.args.layout.now s t c.args.after.now c.args.frame c.holder.result
    c.stays.result c.args.log.now.items c.push_alloc.new.log.items q c.requires c.holder.ensures
    (c.stays.ensures s t p q) c.if-stays.false written) c.push_alloc.ensures
