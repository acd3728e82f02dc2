-- By the ends of plans that the outcome's replies give.
use Rattle.hp_questions.proofs.wanted.EndLine.is_in.Goals as goal

pub returns-in-Plan : goal.returns-in-Plan
returns-in-Plan c = rw c.in-Plan.is (rw c.replies-in-Plan.ensures at c.is_end_of.ensures)
