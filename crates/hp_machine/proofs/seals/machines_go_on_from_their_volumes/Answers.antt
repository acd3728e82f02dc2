-- A call leaves the base, and a seal's volume stands after those before it.
use Rattle.hp_machine.proofs.Volumes.{from_none, from_one_more, from_same}
use Rattle.hp_machine.proofs.seals.machines_go_on_from_their_volumes.Goals as goal

pub returns-clause-boot : goal.returns-clause-boot
returns-clause-boot c l = from_none l

pub returns-clause-call : goal.returns-clause-call
returns-clause-call c volumes old new cpu event r call ok = from_same volumes old new cpu event r call ok

pub returns-clause-seal : goal.returns-clause-seal
returns-clause-seal c volumes m history ok = from_one_more volumes m history ok
