-- It starts with the memory at boot.
use Rattle.hp_history.proofs.journal.Journal.boot.Goals as goal

pub returns-clause-start : goal.returns-clause-start
returns-clause-start c = rw c.in_ok-memory.ensures at c.start.ensures.start
