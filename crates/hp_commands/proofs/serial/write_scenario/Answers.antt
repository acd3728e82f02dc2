use Rattle.hp_scenario.specs.Seen.{scenario_seen}
use Rattle.hp_commands.proofs.Served.{image_text_on}
use Rattle.hp_commands.proofs.serial.write_scenario.Goals as goal

pub returns : goal.returns
returns c =
    image_text_on (scenario_seen c.args.scenario) c.in_ok-image.image c.write_state.result _ _ _
    c.in_ok-image.ensures c.write_state.ensures
