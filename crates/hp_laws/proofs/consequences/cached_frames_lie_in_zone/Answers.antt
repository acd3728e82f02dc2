-- By the pool that each frame of a list shows.
use Rattle.hp_laws.proofs.EventSteps.{value-placed}
use Rattle.hp_laws.proofs.ConsequencesPlaces.{cached_zone}
use Rattle.hp_laws.proofs.consequences.cached_frames_lie_in_zone.Goals as goal

pub returns-clause-state : goal.returns-clause-state
returns-clause-state c = cached_zone

pub returns-clause-history : goal.returns-clause-history
returns-clause-history c l base h cpu pool frame layout p =
    cached_zone l _ cpu pool frame (value-placed l base h layout p)
