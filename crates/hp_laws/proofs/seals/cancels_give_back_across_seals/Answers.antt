-- A Cancel that restores has its Begin in its own history; a release takes each claim off again.
use Rattle.hp_laws.proofs.SealedLaws.{given_back_in_all}
use Rattle.hp_laws.proofs.seals.cancels_give_back_across_seals.Goals as goal

pub returns : goal.returns
returns c = given_back_in_all
