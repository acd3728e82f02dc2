-- The digest of the processors so far.
use Rattle.std.proofs.Common.{◌≡◌, take}
use Rattle.hp_schedules.specs.Digests.{replies_digest}
use Rattle.hp_schedules.proofs.likeness.answers_digest.Given as goal

abbrev pub invariant-loop-answers : goal.invariant-loop-answers
invariant-loop-answers l = l.digest ≡ replies_digest (take l.answers-index l.all)
