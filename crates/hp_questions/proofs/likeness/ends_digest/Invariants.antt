-- The hash of the ends so far.
use Rattle.std.proofs.Common.{◌≡◌, take}
use Rattle.hp_questions.specs.Likeness.{ends_digest}
use Rattle.hp_questions.proofs.likeness.ends_digest.Given as goal

abbrev pub invariant-loop-end : goal.invariant-loop-end
invariant-loop-end l = l.digest ≡ ends_digest (take l.end-index l.ends)
