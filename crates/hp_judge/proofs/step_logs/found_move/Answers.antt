use Rattle.std.proofs.Common.{sym, ◌∙◌}
use Rattle.hp_judge.proofs.StepMoves.{found, pair_is}
use Rattle.hp_judge.proofs.step_logs.found_move.Goals as goal

pub returns : goal.returns
returns c = λ l s t p q.
    found l s t c.args.before.now c.args.after.now c.args.log.now c.first-item.result c.second-item.result
    c.in_ok-from.from c.in_ok-to.to c.move_of_page.result p q
    (pair_is c.args.log.now c.first-item.result c.second-item.result c.in-len2.len_at_least
    c.in-len2.len_below c.first-item.is c.second-item.is)
    (sym c.single_free.ensures ∙ c.in_ok-from.was) (sym c.movable_alloc.ensures ∙ c.in_ok-to.was)
    c.move_of_page.ensures
