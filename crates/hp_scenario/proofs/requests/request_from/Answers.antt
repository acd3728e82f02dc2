use Rattle.std.proofs.Common.{rules}
use Rattle.hp_scenario.specs.Lines.{request_of}
use Rattle.hp_scenario.proofs.requests.request_from.Goals as goal

pub returns-in-plan : goal.returns-in-plan
unfolding request_of
returns-in-plan c = search rules

pub returns-in-cat : goal.returns-in-cat
unfolding request_of
returns-in-cat c = search rules

pub returns-in_default-verb : goal.returns-in_default-verb
unfolding request_of
returns-in_default-verb c = search rules
