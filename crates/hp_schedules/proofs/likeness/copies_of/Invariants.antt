-- The copies so far.
use Rattle.std.proofs.Common.{◌≡◌, take}
use Rattle.hp_schedules.proofs.likeness.copies_of.Given as goal

abbrev pub invariant-loop-answers : goal.invariant-loop-answers
invariant-loop-answers l = l.copies.items ≡ take l.answers-index l.all
