-- The walk stays a walk of its scripts, and less of it is left.
use Rattle.hp_explore.specs.Frames.{IsEndedBy, IsSameWalk, IsWalking, frames_of, left}
use Rattle.hp_explore.proofs.walk.Walk.run.Given as goal

abbrev pub invariant-turns : goal.invariant-turns
invariant-turns o l = record {
  kept : IsWalking l.self (frames_of l.self);
  same : IsSameWalk l.initial.self l.self;
  ended : IsEndedBy (o.W.Watch.has_ended l.watch) l.self;
}

abbrev pub decreases-turns : goal.decreases-turns
decreases-turns o l = left l.self (frames_of l.self)
