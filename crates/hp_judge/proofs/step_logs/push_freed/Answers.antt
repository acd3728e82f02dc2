use Rattle.std.proofs.lemmas.Result.{on_ok_weaker}
use Rattle.hp_judge.proofs.StepShown.{freed}
use Rattle.hp_judge.proofs.step_logs.push_freed.Goals as goal

pub returns : goal.returns
returns c =
    on_ok_weaker c.push_free.result
    (λ written. λ s t p q. freed c.args.layout.now s t c.args.before.now c.args.frame c.holder.result
    c.stays.result c.args.log.now.items c.push_free.new.log.items p c.requires c.holder.ensures
    (c.stays.ensures s t p q) c.if-stays.false written) c.push_free.ensures
