use Rattle.std.proofs.Common.{◌≡◌, [], take, drop}
use Rattle.hp_units.specs.Refusals.{first_repeated}
use Rattle.hp_plain.specs.Plans.{blocks_in}
use Rattle.hp_layers.proofs.layers.plans.first_repeated.Given as goal

abbrev pub invariant-loop-number : goal.invariant-loop-number
invariant-loop-number l =
    first_repeated [] l.plan ≡ first_repeated (blocks_in [] (take l.number l.plan)) (drop l.number l.plan)
