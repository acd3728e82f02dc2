-- The items in the box are those given.
use Rattle.std.proofs.Common.{Vec, Global, ap}
use Rattle.hp_units.specs.declared.plans.Item.{Item}
use Rattle.hp_units.proofs.plans.Plan.new.Goals as goal

pub returns : goal.returns
returns c = ap (λ (v : Vec Item Global). v.items) c.in_ok-items.ensures.ok
