use Rattle.hp_schedules.proofs.Caused.{answer_alike}
use Rattle.hp_schedules.proofs.laws.alike_positions_answer_alike.Goals as goal

pub returns : goal.returns
returns c = answer_alike
