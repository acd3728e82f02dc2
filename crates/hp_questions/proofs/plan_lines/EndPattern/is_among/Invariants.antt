-- No end so far is as wanted.
use Rattle.hp_units.specs.declared.replies.OpEnd.{OpEnd}
use Rattle.hp_questions.specs.PlanLines.{IsEndAsWanted}
use Rattle.hp_questions.proofs.Below.{Below}
use Rattle.hp_questions.proofs.plan_lines.EndPattern.is_among.Given as goal

abbrev pub invariant-loop-index : goal.invariant-loop-index
invariant-loop-index l =
    record { none : Below (λ (end : OpEnd). IsEndAsWanted l.self end → ⊥) l.ends l.index }
