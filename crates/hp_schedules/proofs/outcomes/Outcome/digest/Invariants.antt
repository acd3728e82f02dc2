-- The digest of the rows so far.
use Rattle.std.proofs.Common.{◌≡◌, take}
use Rattle.std.specs.Prelude.{fold}
use Rattle.hp_schedules.specs.Digests.{mixed_row, replies_digest}
use Rattle.hp_schedules.proofs.outcomes.Outcome.digest.Given as goal

abbrev pub invariant-loop-row : goal.invariant-loop-row
invariant-loop-row l =
    l.digest ≡ fold mixed_row (replies_digest l.self.replies) (take l.row-index l.row-items)
