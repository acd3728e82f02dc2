use Rattle.hp_scenario.proofs.CallsPassed.{with_all}
use Rattle.hp_scenario.proofs.calls.Calls.into_scenario.Goals as goal

pub returns : goal.returns
returns c bytes opened =
    with_all bytes c.args.self c.take_all.new.calls c.take_all.new.lines.items c.new.result opened
    (c.in_ok-take_all.ensures c.if-not-branch.false) c.new.ensures
