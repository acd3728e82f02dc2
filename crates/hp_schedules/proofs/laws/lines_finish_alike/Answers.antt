use Rattle.hp_schedules.proofs.AfterLines.{any_known}
use Rattle.hp_schedules.proofs.laws.lines_finish_alike.Goals as goal

pub returns : goal.returns
returns c = λ cpus known line earlier later. any_known cpus known line earlier later
