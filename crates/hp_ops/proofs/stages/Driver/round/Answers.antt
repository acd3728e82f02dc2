use Rattle.hp_ops.proofs.stages.Driver.round.Goals as goal

pub returns-else-cpu-self-clause-next : goal.returns-else-cpu-self-clause-next
returns-else-cpu-self-clause-next c =
    c.turn.ensures.next c.args.self.now.cpus c.args.cpu c.if-cpu-self.false
