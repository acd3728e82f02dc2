-- An operation that is live holds its rows, whether its Begin was sealed or not.
use Rattle.hp_laws.proofs.SealedLaws.{commit_granted_in_all, commit_held_in_all}
use Rattle.hp_laws.proofs.seals.commits_grant_across_seals.Goals as goal

pub returns-clause-held : goal.returns-clause-held
returns-clause-held c = commit_held_in_all

pub returns-clause-granted : goal.returns-clause-granted
returns-clause-granted c = commit_granted_in_all
