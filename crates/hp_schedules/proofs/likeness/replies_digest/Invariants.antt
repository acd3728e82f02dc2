-- The digest of the replies so far.
use Rattle.std.proofs.Common.{◌≡◌, take}
use Rattle.std.specs.Prelude.{fold}
use Rattle.hp_schedules.specs.Digests.{mixed_reply}
use Rattle.hp_schedules.proofs.likeness.replies_digest.Given as goal

abbrev pub invariant-loop-reply : goal.invariant-loop-reply
invariant-loop-reply l = l.digest ≡ fold mixed_reply 0 (take l.reply-index l.replies)
