-- Where the walk stands goes on.
use Rattle.std.proofs.Common.{ap, subst, sym, ◌∙◌}
use Rattle.std.proofs.lemmas.Result.{on_ok_weaker}
use Rattle.hp_states.specs.Seen.{MemoValue}
use Rattle.hp_states.specs.Standing.{IsStanding}
use Rattle.hp_states.proofs.memo.Memo.go_on.Goals as goal

pub returns-clause-ok : goal.returns-clause-ok
returns-clause-ok c =
    on_ok_weaker c.go_on.result
    (λ on g news way leaves set. on g news
    (subst (λ (m : MemoValue). IsStanding g news m.standing) (sym c.self.view_is)
    (way (ap (λ (m : MemoValue). m.is_on) (sym c.self.view_is) ∙ set)))
    (leaves (ap (λ (m : MemoValue). m.is_on) (sym c.self.view_is) ∙ set)))
    c.go_on.ensures.ok
