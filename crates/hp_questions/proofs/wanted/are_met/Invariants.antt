-- The end has the lines so far.
use Rattle.hp_questions.specs.Wanted.{IsMetBy}
use Rattle.hp_questions.specs.declared.wanted.Wanted.{Wanted}
use Rattle.hp_questions.proofs.Below.{Below}
use Rattle.hp_questions.proofs.wanted.are_met.Given as goal

abbrev pub invariant-loop-index : goal.invariant-loop-index
invariant-loop-index l =
    record { all : Below (λ (one : Wanted). IsMetBy l.cpus l.scripts l.outcome one) l.wanted l.index }
