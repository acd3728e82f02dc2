-- A Cancel that restores cuts at its operation's Begin.
use Rattle.hp_laws.proofs.LawProofs.{restored}
use Rattle.hp_laws.proofs.laws.restored_state.Goals as goal

pub returns : goal.returns
returns c = restored
