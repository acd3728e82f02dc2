use Rattle.hp_commands.proofs.plans.run_to_end.Goals as goal

pub returns-in-Ok : goal.returns-in-Ok
returns-in-Ok c = rw c.in-Ok.ensures at c.run_plan.ensures
