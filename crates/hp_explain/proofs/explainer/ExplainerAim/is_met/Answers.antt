-- All lines are finished.
use Rattle.hp_explain.proofs.Orders.{order_met}
use Rattle.hp_explain.proofs.explainer.ExplainerAim.is_met.Goals as goal

pub returns-then-is_over-clause-found : goal.returns-then-is_over-clause-found
returns-then-is_over-clause-found c =
    λ met. order_met _ _ c.args.schedule.now c.args.path.now.news
    (rw c.requires.schedule c.is_played.ensures) c.requires.admitted.0 (c.is_over.ensures.0 c.if-is_over.true)
