use Rattle.hp_schedules.proofs.Interleavings.{complete_schedules}
use Rattle.hp_schedules.proofs.laws.schedules_are_interleavings.Goals as goal

pub returns : goal.returns
returns c = λ g s all. complete_schedules g s all
