use Rattle.std.proofs.Common.{sym, subst, [], ◌∷◌, ◌++◌}
use Rattle.hp_judge.specs.Names.{MachineSize}
use Rattle.hp_judge.specs.Tables.{FollowsAt}
use Rattle.hp_judge.proofs.Steps.{follows_on}
use Rattle.hp_judge.proofs.judge.Judge.judge.Goals as goal

pub returns-clause-follows : goal.returns-clause-follows
returns-clause-follows c = λ log h.
    subst (λ (m : MachineSize). FollowsAt m (log ++ c.args.event.now ∷ []) c.apply.new.self)
    (sym c.apply.ensures.size) (follows_on _ log _ _ _ h c.apply.ensures.steps)
