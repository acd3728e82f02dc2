-- No end of the processors so far is as wanted.
use Rattle.std.proofs.Common.{List}
use Rattle.hp_units.specs.declared.replies.OpEnd.{OpEnd}
use Rattle.hp_questions.specs.PlanLines.{HasEnd}
use Rattle.hp_questions.proofs.Below.{Below}
use Rattle.hp_questions.proofs.plan_lines.EndPattern.is_among_all.Given as goal

abbrev pub invariant-loop-index : goal.invariant-loop-index
invariant-loop-index l =
    record { none : Below (λ (ends : List OpEnd). HasEnd l.self ends → ⊥) l.all l.index }
