-- They are the same so far.
use Rattle.std.proofs.Common.{◌≡◌, take}
use Rattle.hp_questions.proofs.likeness.same_ends.Given as goal

abbrev pub invariant-loop-place : goal.invariant-loop-place
invariant-loop-place l = take l.place l.ends ≡ take l.place l.others
