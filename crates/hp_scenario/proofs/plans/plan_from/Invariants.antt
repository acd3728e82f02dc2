use Rattle.std.proofs.Common.{◌≡◌, map, length}
use Rattle.hp_scenario.specs.Lines as says
use Rattle.hp_scenario.proofs.Each.{after_front}
use Rattle.hp_scenario.proofs.plans.plan_from.Given as goal

abbrev pub invariant-loop-rest : goal.invariant-loop-rest
invariant-loop-rest l =
    after_front l.items.items (says.items_of (map (λ w. w.now) l.rest))
    ≡ says.items_of (map (λ w. w.now) l.words)

abbrev pub decreases-loop-rest : goal.decreases-loop-rest
decreases-loop-rest l = length l.rest
