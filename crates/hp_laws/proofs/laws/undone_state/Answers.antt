-- An undo that is not refused keeps the steps up to its serial.
use Rattle.hp_laws.proofs.LawProofs.{undone}
use Rattle.hp_laws.proofs.laws.undone_state.Goals as goal

pub returns : goal.returns
returns c = undone
