use Rattle.hp_ops.proofs.stages.Driver.stage_after.Goals as goal

pub returns-in-Cancel-clause-next : goal.returns-in-Cancel-clause-next
returns-in-Cancel-clause-next c =
    rw c.in-Cancel.is (c.after_cancel.ensures.next c.in-Cancel.op)
