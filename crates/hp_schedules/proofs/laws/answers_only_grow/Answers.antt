use Rattle.hp_schedules.proofs.LineAnswers.{grow_at, others_stay}
use Rattle.hp_schedules.proofs.laws.answers_only_grow.Goals as goal

pub returns-clause-later : goal.returns-clause-later
returns-clause-later c = λ g cpu news more. grow_at g cpu news more

pub returns-clause-others : goal.returns-clause-others
returns-clause-others c = λ g cpu news latest other. others_stay g cpu news latest other
