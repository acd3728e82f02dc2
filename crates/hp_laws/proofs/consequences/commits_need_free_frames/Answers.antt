-- A block is all free where each of its frames is in a free block, since free buddies are joined.
use Rattle.hp_laws.proofs.EventSteps.{value-placed}
use Rattle.hp_laws.proofs.ConsequencesCommits.{all_free-none}
use Rattle.hp_laws.proofs.ConsequencesReplies.{commit_done, commit_refused, commit_some}
use Rattle.hp_laws.proofs.OfflineCommit.{commit_step}
use Rattle.hp_laws.proofs.consequences.commits_need_free_frames.Goals as goal

pub returns-clause-lowest : goal.returns-clause-lowest
returns-clause-lowest c = commit_refused

pub returns-clause-some : goal.returns-clause-some
returns-clause-some c = commit_some

pub returns-clause-done : goal.returns-clause-done
returns-clause-done c = commit_done

pub returns-clause-tests : goal.returns-clause-tests
returns-clause-tests c = all_free-none

pub returns-clause-history : goal.returns-clause-history
returns-clause-history c l base before op frame h r layout p legal event low =
    rw (commit_step l base before op h r legal event) (commit_refused l _
    _ r.cpu op frame layout (value-placed l base h layout p) low)
