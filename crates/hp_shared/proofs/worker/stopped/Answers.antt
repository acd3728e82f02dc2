use Rattle.std.proofs.Common.{refl}
use Rattle.hp_shared.proofs.worker.stopped.Goals as goal

pub returns-clause-fault : goal.returns-clause-fault
returns-clause-fault g c = refl
