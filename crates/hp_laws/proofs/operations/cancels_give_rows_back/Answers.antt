-- A restoring Cancel leads back to the state before the Begin, and a release takes each claim off
-- again.
use Rattle.hp_laws.proofs.OperationLaws.{given_back}
use Rattle.hp_laws.proofs.operations.cancels_give_rows_back.Goals as goal

pub returns : goal.returns
returns c = given_back
