-- By the ends of plans that the replies so far give.
use Rattle.hp_questions.proofs.marks.has_line_so_far.Goals as goal

pub returns-in_ok-all-in-Plan : goal.returns-in_ok-all-in-Plan
returns-in_ok-all-in-Plan c =
    rw c.in-Plan.is (rw (c.as_slice.ensures.value, c.in_ok-all-in-Plan.ensures) at c.is_end_of.ensures)
