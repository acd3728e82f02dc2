-- The replies of the records, and the rows of the memory.
use Rattle.hp_states.proofs.ends.outcome_at.Goals as goal

pub returns : goal.returns
returns c =
    rw (c.new.ensures, c.in_ok-replies.ensures, c.records.ensures, c.in_ok-blocks.ensures, c.memory.ensures)
