-- The hash of the bytes so far.
use Rattle.std.proofs.Common.{◌≡◌, take}
use Rattle.std.specs.Prelude.{fold}
use Rattle.hp_schedules.specs.Digests.{mixed}
use Rattle.hp_search.proofs.groupings.text_digest.Given as goal

abbrev pub invariant-loop-byte : goal.invariant-loop-byte
invariant-loop-byte l = l.digest ≡ fold mixed 0 (take l.byte-index l.bytes)
