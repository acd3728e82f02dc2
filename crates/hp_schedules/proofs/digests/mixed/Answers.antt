use Rattle.hp_schedules.specs.Digests.{mixed}
use Rattle.hp_schedules.proofs.digests.mixed.Goals as goal

pub returns : goal.returns
unfolding mixed
returns c = c.rotate_left.ensures
