-- No reply of the processors so far is as wanted.
use Rattle.std.proofs.Common.{List}
use Rattle.hp_units.specs.declared.replies.Reply.{Reply}
use Rattle.hp_questions.specs.Wanted.{HasReply}
use Rattle.hp_questions.proofs.Below.{Below}
use Rattle.hp_questions.proofs.wanted.Pattern.is_among_all.Given as goal

abbrev pub invariant-loop-index : goal.invariant-loop-index
invariant-loop-index l =
    record { none : Below (λ (replies : List Reply). HasReply l.self replies → ⊥) l.all l.index }
