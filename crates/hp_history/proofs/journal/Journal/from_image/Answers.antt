-- It starts with the memory of the image.
use Rattle.hp_history.proofs.journal.Journal.from_image.Goals as goal

pub returns : goal.returns
returns c = rw c.in_ok-memory.ensures at c.start.ensures.start
