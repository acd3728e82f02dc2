-- What is found of the records over the journal that begins at the base is found over the base.
use Rattle.hp_machine.proofs.replaying.replay_from.Goals as goal

pub image_after-requires : goal.image_after-requires
image_after-requires c = rw c.in_ok-journal.ensures

pub returns-clause-legal : goal.returns-clause-legal
returns-clause-legal c = rw c.in_ok-journal.ensures at c.image_after.ensures.legal

pub returns-clause-value : goal.returns-clause-value
returns-clause-value c = rw c.in_ok-journal.ensures at c.image_after.ensures.value

pub returns-clause-fault : goal.returns-clause-fault
returns-clause-fault c = rw c.in_ok-journal.ensures at c.image_after.ensures.fault

pub returns-clause-only : goal.returns-clause-only
returns-clause-only c = rw c.in_ok-journal.ensures at c.image_after.ensures.only

pub returns-clause-placed : goal.returns-clause-placed
returns-clause-placed c = c.image_after.ensures.placed
