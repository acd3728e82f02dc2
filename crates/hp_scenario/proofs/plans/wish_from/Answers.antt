use Rattle.std.proofs.Common.{ap, sym}
use Rattle.hp_scenario.specs.Lines.{wish_of}
use Rattle.hp_scenario.proofs.plans.wish_from.Goals as goal

pub returns-in-off : goal.returns-in-off
unfolding wish_of
returns-in-off c = sym (ap wish_of c.in-off.is)

pub returns-in-normal : goal.returns-in-normal
unfolding wish_of
returns-in-normal c = sym (ap wish_of c.in-normal.is)

pub returns-in-movable : goal.returns-in-movable
unfolding wish_of
returns-in-movable c = sym (ap wish_of c.in-movable.is)
