-- One step of the net after another.
use Rattle.hp_laws.proofs.Boots.{boot-placed}
use Rattle.hp_laws.proofs.EventSteps.{value-placed}
use Rattle.hp_laws.proofs.placement.histories_keep_placement.Goals as goal

pub returns-clause-base : goal.returns-clause-base
returns-clause-base c = value-placed

pub returns-clause-boot : goal.returns-clause-boot
returns-clause-boot c l h layout = value-placed l _ h layout (boot-placed l layout)
