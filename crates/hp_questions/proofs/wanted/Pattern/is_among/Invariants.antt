-- No reply so far is as wanted.
use Rattle.hp_units.specs.declared.replies.Reply.{Reply}
use Rattle.hp_questions.specs.Patterns.{IsAsWanted}
use Rattle.hp_questions.proofs.Below.{Below}
use Rattle.hp_questions.proofs.wanted.Pattern.is_among.Given as goal

abbrev pub invariant-loop-index : goal.invariant-loop-index
invariant-loop-index l =
    record { none : Below (λ (reply : Reply). IsAsWanted l.self reply → ⊥) l.replies l.index }
