-- By the event: what is refused leaves the state, and each other event keeps it well placed.
use Rattle.hp_laws.proofs.EventSteps.{step-placed}
use Rattle.hp_laws.proofs.placement.steps_keep_placement.Goals as goal

pub returns : goal.returns
returns c = step-placed
