-- Where the walk stands goes back.
use Rattle.std.proofs.Common.{◌++◌, ◌∷◌, []}
use Rattle.hp_states.proofs.Keeping.{memo_stands}
use Rattle.hp_states.proofs.memo.Memo.go_back.Goals as goal

pub returns-then-self-clause-back : goal.returns-then-self-clause-back
returns-then-self-clause-back c =
    λ g news r whose way set. c.go_back.ensures.back g news r whose
    (memo_stands g (news ++ r ∷ []) _ c.args.self.now c.self.view_is way set)
