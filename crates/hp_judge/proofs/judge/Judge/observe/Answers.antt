use Rattle.std.proofs.Common.{[], ◌∷◌, ◌++◌, sym, subst}
use Rattle.hp_judge.specs.Names.{MachineSize}
use Rattle.hp_judge.specs.Tables.{FollowsAt}
use Rattle.hp_judge.proofs.Steps.{follows_grown, follows_on}
use Rattle.hp_judge.proofs.judge.Judge.observe.Goals as goal

pub returns-then-not-is_well_formed-clause-follows :
    goal.returns-then-not-is_well_formed-clause-follows
returns-then-not-is_well_formed-clause-follows c = λ log h.
    subst (λ (m : MachineSize). FollowsAt m (log ++ c.args.event.now ∷ []) c.skip.new.self)
    (sym c.skip.ensures.size) (follows_on _ log _ _ _ h c.skip.ensures.steps)

pub returns-clause-follows : goal.returns-clause-follows
returns-clause-follows c = λ log h.
    c.judge.ensures.follows log (follows_grown log _ _ c.reserve.ensures.same h)
