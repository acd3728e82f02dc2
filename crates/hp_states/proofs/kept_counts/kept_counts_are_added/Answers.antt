use Rattle.hp_schedules.proofs.ClosedNets.{closed_told}
use Rattle.hp_states.proofs.OfPart.{merged_all}
use Rattle.hp_states.proofs.kept_counts.kept_counts_are_added.Goals as goal

pub returns-clause-closed : goal.returns-clause-closed
returns-clause-closed c = closed_told

pub returns-clause-merged : goal.returns-clause-merged
returns-clause-merged c = merged_all
