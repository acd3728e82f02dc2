-- A call that is a change too many.
use Rattle.std.proofs.Common.{◌∷◌, ◌++◌, []}
use Rattle.hp_explore.proofs.Budgets.{far_skipped}
use Rattle.hp_explore.proofs.within.WithinAim.may_try.Goals as goal
use Rattle.std.proofs.lemmas.Bool.{not-false}

pub returns-clause-skipped : goal.returns-clause-skipped
returns-clause-skipped c =
    λ told.
    far_skipped c.args._path.now.setting c.args.self.now.wanted.now c.args.self.now.budget
    (c.args.schedule.now ++ c.args.cpu ∷ []) (c.exceeds.ensures.more (not-false c.exceeds.result told))
