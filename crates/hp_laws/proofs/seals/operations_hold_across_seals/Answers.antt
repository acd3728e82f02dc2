-- The steps of all histories are one run, in which a claimed row changes only where its operation
-- ends.
use Rattle.hp_laws.proofs.SealedLaws.{claimed_in_all, held_in_all}
use Rattle.hp_laws.proofs.seals.operations_hold_across_seals.Goals as goal

pub returns-clause-claimed : goal.returns-clause-claimed
returns-clause-claimed c = claimed_in_all

pub returns-clause-held : goal.returns-clause-held
returns-clause-held c = held_in_all
