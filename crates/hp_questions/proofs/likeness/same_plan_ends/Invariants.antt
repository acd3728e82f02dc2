-- They are the same so far.
use Rattle.std.proofs.Common.{◌≡◌, take}
use Rattle.hp_questions.proofs.likeness.same_plan_ends.Given as goal

abbrev pub invariant-loop-place : goal.invariant-loop-place
invariant-loop-place l = take l.place l.all ≡ take l.place l.others
