-- As its line is.
use Rattle.hp_questions.proofs.wanted.Wanted.is_met_by.Goals as goal

pub returns-in-Has : goal.returns-in-Has
returns-in-Has c = rw c.in-Has.is c.is_in.ensures
