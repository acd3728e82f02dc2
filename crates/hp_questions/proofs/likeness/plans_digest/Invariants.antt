-- The hash of the processors so far.
use Rattle.std.proofs.Common.{◌≡◌, take}
use Rattle.hp_questions.specs.Likeness.{plans_digest}
use Rattle.hp_questions.proofs.likeness.plans_digest.Given as goal

abbrev pub invariant-loop-ends : goal.invariant-loop-ends
invariant-loop-ends l = l.digest ≡ plans_digest (take l.ends-index l.all)
