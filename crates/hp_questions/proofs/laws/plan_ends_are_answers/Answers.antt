-- After a schedule.
use Rattle.hp_questions.proofs.Played.{ends_are_answers}
use Rattle.hp_questions.proofs.laws.plan_ends_are_answers.Goals as goal

pub returns : goal.returns
returns c = ends_are_answers
