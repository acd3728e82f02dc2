-- The latest turn leads back over the latest record.
use Rattle.hp_explore.specs.Settings.{setting}
use Rattle.hp_explore.proofs.Paths.{back_shown, path_taken}
use Rattle.hp_explore.proofs.path.Path.back.Goals as goal

pub step_back-requires : goal.step_back-requires
step_back-requires c = (setting c.self.inside.machine.now c.self.inside.scripts.now, c.self.invariant)

pub invariant_of-self : goal.invariant_of-self
invariant_of-self c =
    path_taken _ c.self.inside.here _ c.step_back.result _ _ (c.step_back.ensures _ c.self.invariant)

pub returns : goal.returns
returns c =
    back_shown _ c.self.inside.here _ c.step_back.result _ _ _ c.self.view_is
    (c.step_back.ensures _ c.self.invariant)
