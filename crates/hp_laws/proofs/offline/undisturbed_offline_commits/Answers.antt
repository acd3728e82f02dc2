-- Each frame of the operation's going blocks is in a free block, as it is in no other place.
use Rattle.std.proofs.Common.{◌≢◌}
use Rattle.hp_units.specs.History.{value_of}
use Rattle.hp_laws.proofs.Boots.{boot-placed}
use Rattle.hp_laws.proofs.LawProofs.{front_legal}
use Rattle.hp_laws.proofs.OfflineClaims.{boot-claims, held_others, numbered_others}
use Rattle.hp_laws.proofs.OfflineCommit.{undisturbed_done, undisturbed_new}
use Rattle.hp_laws.proofs.offline.undisturbed_offline_commits.Goals as goal

pub returns-clause-boot : goal.returns-clause-boot
returns-clause-boot c l op h r layout legal event low u =
    undisturbed_done l _ 0 op h r layout (boot-placed l layout) (boot-claims l (λ n. n ≢ op))
    legal event low u

pub returns-clause-base : goal.returns-clause-base
returns-clause-base c l base before op h r layout p new =
    undisturbed_done l base before op h r layout p (held_others op _ new)

pub returns-clause-numbered : goal.returns-clause-numbered
returns-clause-numbered c l base before op h r layout p claims legal event low u =
    undisturbed_done l base before op h r layout p (held_others op base.blocks.rows
    (numbered_others before op base.blocks (undisturbed_new l base before op h (value_of l base h)
    (front_legal l base before h r legal) u) claims)) legal event low u
