-- The image of its memory.
use Rattle.hp_history.proofs.journal.Journal.image.Goals as goal

pub returns : goal.returns
returns c = rw (← c.self.view_is) c.image.ensures
