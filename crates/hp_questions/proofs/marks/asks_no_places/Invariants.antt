-- None of the lines so far is about the place of a reply.
use Rattle.std.proofs.Common.{◌≡◌, take, true}
use Rattle.hp_questions.specs.Marks.{asks_no_places}
use Rattle.hp_questions.proofs.marks.asks_no_places.Given as goal

abbrev pub invariant-loop-one : goal.invariant-loop-one
invariant-loop-one l = asks_no_places (take l.one-index l.wanted) ≡ true
