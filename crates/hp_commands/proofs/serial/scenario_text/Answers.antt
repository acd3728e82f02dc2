use Rattle.hp_commands.proofs.serial.scenario_text.Goals as goal

pub returns : goal.returns
returns c input read = c.in_ok-write_scenario.ensures c.in_ok-out.ensures input read
