-- The call that was made gives its line what comes next.
use Rattle.hp_explain.proofs.Stood.{answered_forth, next_answered}
use Rattle.hp_explain.proofs.standing.next_of.Goals as goal

pub returns-in-Ok-true-clause-next : goal.returns-in-Ok-true-clause-next
returns-in-Ok-true-clause-next c =
    let forth = rw c.in-Ok-true.field-0-test at c.in-Ok-true.ensures.ok in
    let runs = rw c.in_default.is at c.waits_for.ensures in
    next_answered _ _ _ _ c.latest_answer-next.result runs
    (answered_forth c.args.path.now c.forward.new.self _ _ forth c.latest_answer-next.ensures)
