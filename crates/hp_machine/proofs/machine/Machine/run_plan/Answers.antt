use Rattle.hp_machine.proofs.machine.Machine.run_plan.Goals as goal

pub returns : goal.returns
returns c = c.carry_out.ensures
