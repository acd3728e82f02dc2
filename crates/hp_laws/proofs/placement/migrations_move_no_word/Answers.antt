-- One entry of the table is written, and no other page is at that frame.
use Rattle.hp_laws.proofs.MovedPages.{migrate-frames, migrate-words}
use Rattle.hp_laws.proofs.placement.migrations_move_no_word.Goals as goal

pub returns-clause-words : goal.returns-clause-words
returns-clause-words c = migrate-words

pub returns-clause-frames : goal.returns-clause-frames
returns-clause-frames c = migrate-frames
