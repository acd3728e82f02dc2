-- The serials of the steps rise, and each step is rooted in the history.
use Rattle.std.proofs.Common.{arith}
use Rattle.hp_units.specs.History.{value_of}
use Rattle.hp_laws.proofs.Earlier.{each_prefix, numbered_net, rooted_net}
use Rattle.hp_laws.proofs.laws.earlier_states.Goals as goal

pub returns-clause-prefix : goal.returns-clause-prefix
returns-clause-prefix c l base before k h legal =
    each_prefix before _ _ k (omega arith) (numbered_net l base before h legal)

pub returns-clause-state : goal.returns-clause-state
unfolding value_of
returns-clause-state c l base before k h r legal at = rw ((rooted_net l base before h legal).comes k r at)
