use Rattle.hp_schedules.proofs.Continuing.{continues_as}
use Rattle.hp_schedules.proofs.laws.alike_beginnings_continue_alike.Goals as goal

pub returns : goal.returns
returns c = continues_as
