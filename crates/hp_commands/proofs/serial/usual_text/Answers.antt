use Rattle.hp_scenario.specs.Calls.{IsOpened}
use Rattle.hp_scenario.proofs.UsualForm.{there}
use Rattle.hp_commands.proofs.Called.{text_of_opened}
use Rattle.hp_commands.proofs.serial.usual_text.Goals as goal

pub returns : goal.returns
returns c =
    text_of_opened c.args.input.now c.in-Some.calls c.calls_text.result
    (there c.in_ok-calls.field-0 c.in-Some.calls (λ k. IsOpened c.args.input.now k) c.in-Some.is
    c.in_ok-calls.ensures) c.calls_text.ensures
