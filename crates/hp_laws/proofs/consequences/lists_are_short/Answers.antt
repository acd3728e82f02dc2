-- The first frames of a list's blocks are different frames of the layout.
use Rattle.hp_laws.proofs.EventSteps.{value-placed}
use Rattle.hp_laws.proofs.ConsequencesPlaces.{cached_length, free_length}
use Rattle.hp_laws.proofs.consequences.lists_are_short.Goals as goal

pub returns-clause-free : goal.returns-clause-free
returns-clause-free c = free_length

pub returns-clause-cached : goal.returns-clause-cached
returns-clause-cached c = cached_length

pub returns-clause-free_history : goal.returns-clause-free_history
returns-clause-free_history c l base h class order layout p =
    free_length l _ class order layout (value-placed l base h layout p)

pub returns-clause-cached_history : goal.returns-clause-cached_history
returns-clause-cached_history c l base h cpu pool layout p =
    cached_length l _ cpu pool layout (value-placed l base h layout p)

pub returns-clause-frames : goal.returns-clause-frames
returns-clause-frames c l layout = layout.frames
