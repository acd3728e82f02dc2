use Rattle.hp_schedules.specs.Schedules.{EndsWith, IsComplete}
use Rattle.hp_schedules.proofs.Uniqueness.{only_count}
use Rattle.hp_schedules.proofs.laws.counts_are_unique.Goals as goal

pub returns-clause-all : goal.returns-clause-all
returns-clause-all c = λ g m n a b. only_count (IsComplete g) m n a b

pub returns-clause-ends : goal.returns-clause-ends
returns-clause-ends c = λ g x m n a b. only_count (λ s. EndsWith g s x) m n a b
