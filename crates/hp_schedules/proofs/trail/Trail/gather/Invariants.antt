-- The shares so far are in the sums.
use Rattle.hp_schedules.proofs.Trails.{IsGatheredTo}
use Rattle.hp_schedules.proofs.trail.Trail.gather.Given as goal

abbrev pub invariant-loop-at : goal.invariant-loop-at
invariant-loop-at l = IsGatheredTo l.start l.at l.end l.initial.self.shares.items l.self.shares.items
