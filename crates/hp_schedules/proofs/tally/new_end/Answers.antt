-- The replies and the rows are the outcome.
use Rattle.hp_schedules.proofs.tally.new_end.Goals as goal

pub returns-clause-outcome : goal.returns-clause-outcome
returns-clause-outcome c = rw (c.new.ensures, c.in_ok-replies.ensures)
