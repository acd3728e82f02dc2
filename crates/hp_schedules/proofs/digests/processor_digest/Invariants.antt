-- The digest of the replies so far.
use Rattle.std.proofs.Common.{◌≡◌, take}
use Rattle.std.specs.Prelude.{fold}
use Rattle.hp_schedules.specs.Digests.{mixed_reply}
use Rattle.hp_schedules.specs.Outcomes.{replies_to}
use Rattle.hp_schedules.proofs.digests.processor_digest.Given as goal

abbrev pub invariant-loop-record : goal.invariant-loop-record
invariant-loop-record l = l.digest ≡ fold mixed_reply 0 (replies_to l.cpu (take l.record-index l.records))
