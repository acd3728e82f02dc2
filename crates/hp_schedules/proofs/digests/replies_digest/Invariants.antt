-- The digest of the processors so far.
use Rattle.std.proofs.Common.{◌≡◌}
use Rattle.hp_schedules.specs.Digests.{replies_digest}
use Rattle.hp_schedules.specs.Outcomes.{replies_below}
use Rattle.hp_schedules.proofs.digests.replies_digest.Given as goal

abbrev pub invariant-loop-cpu : goal.invariant-loop-cpu
invariant-loop-cpu l = l.digest ≡ replies_digest (replies_below l.cpu l.records)
