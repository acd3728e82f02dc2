use Rattle.hp_ops.proofs.stages.Driver.after_begin.Goals as goal

pub returns-in-Opened-clause-next : goal.returns-in-Opened-clause-next
returns-in-Opened-clause-next c item =
    rw c.in-Opened.is (λ turns plan rs left. c.round.ensures.next turns plan rs left)
