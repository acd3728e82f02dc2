-- The shares so far leave so much.
use Rattle.std.proofs.Common.{◌≡◌, ◌+◌, take}
use Rattle.hp_schedules.proofs.Shares.{shared}
use Rattle.hp_schedules.proofs.tally.fit_in.Given as goal

abbrev pub invariant-loop-share : goal.invariant-loop-share
invariant-loop-share l = record {
  so_far : l.left + shared (take l.share-index l.shares) ≡ l.room;
}
