-- The wanted lines so far have their numbers.
use Rattle.std.proofs.Common.{◌≡◌, ◌++◌, ℕ, List}
use Rattle.hp_questions.specs.Marks.{AreMet}
use Rattle.hp_questions.proofs.marks.push_met.Given as goal

abbrev pub invariant-loop-index : goal.invariant-loop-index
invariant-loop-index l =
    (met : List ℕ) × (l.numbers.items ≡ l.initial.numbers.items ++ met)
    × AreMet l.cpus l.scripts l.wanted l.processors l.records l.index met
