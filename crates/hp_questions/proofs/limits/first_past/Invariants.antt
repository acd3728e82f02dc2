-- No line so far names what is past the layout.
use Rattle.hp_questions.specs.Limits.{IsPast}
use Rattle.hp_questions.specs.declared.wanted.Wanted.{Wanted}
use Rattle.hp_questions.proofs.Below.{Below}
use Rattle.hp_questions.proofs.limits.first_past.Given as goal

abbrev pub invariant-loop-index : goal.invariant-loop-index
invariant-loop-index l =
    record { none : Below (λ (line : Wanted). IsPast l.layout line → ⊥) l.wanted l.index }
