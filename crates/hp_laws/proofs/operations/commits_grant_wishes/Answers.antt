-- An operation that isn't over holds its rows, and a Commit gives each of them the wish of its
-- claim.
use Rattle.hp_laws.proofs.OperationLaws.{commit_granted, commit_held}
use Rattle.hp_laws.proofs.operations.commits_grant_wishes.Goals as goal

pub returns-clause-held : goal.returns-clause-held
returns-clause-held c = commit_held

pub returns-clause-granted : goal.returns-clause-granted
returns-clause-granted c = commit_granted
