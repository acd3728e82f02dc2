-- A turn says what the walk came to.
use Rattle.hp_explore.proofs.walk.Walk.run.Goals as goal

pub returns-in-Full-clause-done : goal.returns-in-Full-clause-done
returns-in-Full-clause-done o c = rw c.in-Full.is at c.in_ok-step.ensures.ok
