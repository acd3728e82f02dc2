-- Each refusal and each change of the state is the same.
use Rattle.hp_laws.proofs.Alike.{steps_same}
use Rattle.hp_laws.proofs.RenumberedSteps.{step_same}
use Rattle.hp_laws.proofs.renumbering.steps_are_renumbered.Goals as goal

pub returns-clause-step : goal.returns-clause-step
returns-clause-step c f l s serial cpu e one = step_same f one l s serial cpu e

pub returns-clause-reply : goal.returns-clause-reply
returns-clause-reply c f h l s t serial cpu e d f_one h_one number state event =
    (steps_same f h f_one h_one l s t serial cpu e d number state event).reply
