-- What is told is of the ends that were passed on.
use Rattle.std.proofs.lemmas.Result.{IfOk-weaker}
use Rattle.hp_search.proofs.prepared.Prepared.exploration_told.Goals as goal

pub returns-clause-ok : goal.returns-clause-ok
returns-clause-ok c =
    IfOk-weaker c.ends_told.result _ _
    (λ f h. (c.in_ok-more.more, c.in_ok-more.ensures, rw (← c.deref.ensures.value) h)) c.ends_told.ensures.ok

pub returns-clause-along : goal.returns-clause-along
returns-clause-along c = rw c.deref.ensures.value at c.ends_told.ensures.along
