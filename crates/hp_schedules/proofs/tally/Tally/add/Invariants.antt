-- The shares so far are added.
use Rattle.std.proofs.Common.{◌≡◌, length}
use Rattle.hp_schedules.specs.Trails.{KeepsBefore}
use Rattle.hp_schedules.proofs.Shares.{AddsBelow}
use Rattle.hp_schedules.proofs.tally.Tally.add.Given as goal

abbrev pub invariant-loop-share : goal.invariant-loop-share
invariant-loop-share l = record {
  added : AddsBelow l.initial.self.ends l.shares l.share-index l.self.ends;
  limit_is : l.self.limit ≡ l.initial.self.limit;
  told : KeepsBefore (length l.initial.self.trail) l.initial.self l.self;
}
