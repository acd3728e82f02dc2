use Rattle.hp_schedules.proofs.digests.learn.Goals as goal

pub returns-in-Ok-clause-is : goal.returns-in-Ok-clause-is
returns-in-Ok-clause-is c = c.in-Ok.ensures.updates
