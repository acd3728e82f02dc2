-- The digest of the rows so far.
use Rattle.std.proofs.Common.{◌≡◌, take}
use Rattle.std.specs.Prelude.{fold}
use Rattle.hp_schedules.specs.Digests.{mixed_row, replies_digest}
use Rattle.hp_schedules.specs.Outcomes.{replies_below}
use Rattle.hp_schedules.proofs.digests.digest_of.Given as goal

abbrev pub invariant-loop-row : goal.invariant-loop-row
invariant-loop-row l =
    l.digest
    ≡ fold mixed_row (replies_digest (replies_below l.processors l.records)) (take l.row-index l.blocks)
