-- A claimed row changes only where its operation ends, so what the Begin left stays.
use Rattle.hp_laws.proofs.OperationLaws.{claimed, held}
use Rattle.hp_laws.proofs.operations.operations_hold_their_rows.Goals as goal

pub returns-clause-claimed : goal.returns-clause-claimed
returns-clause-claimed c = claimed

pub returns-clause-held : goal.returns-clause-held
returns-clause-held c = held
