use Rattle.hp_scenario.specs.Calls.{IsOpened}
use Rattle.hp_scenario.proofs.UsualForm.{there}
use Rattle.hp_scenario.proofs.calls.read_usual.Goals as goal

pub returns-in-Some : goal.returns-in-Some
returns-in-Some c =
    c.into_scenario.ensures c.args.bytes.now
    (there c.in_ok-calls.field-0 c.in-Some.calls (λ k. IsOpened c.args.bytes.now k) c.in-Some.is
    c.in_ok-calls.ensures)
