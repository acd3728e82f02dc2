-- What the search for its aim found.
use Rattle.std.proofs.Common.{◌∙◌}
use Rattle.std.proofs.lemmas.Result.{err_from_is_err_and}
use Rattle.hp_explore.specs.Settings.{setting}
use Rattle.hp_explain.specs.Explaining.{IsExplained}
use Rattle.hp_explain.proofs.Orders.{explain_cause, none_found, start_explained}
use Rattle.hp_explain.proofs.explaining.explain.Goals as goal

pub first_sought-requires-clause-admitted : goal.first_sought-requires-clause-admitted
first_sought-requires-clause-admitted g c = (
  start_explained (setting c.args.machine.now c.args.scripts.now) c.new-explainer.result.seen.now,
  c.new-explainer.ensures.room ∙ c.calls_left.ensures c.args.scripts.now,
)

pub returns-in_err-order-clause-err : goal.returns-in_err-order-clause-err
returns-in_err-order-clause-err g c =
    let p = err_from_is_err_and c.from_residual.result c.from_residual.ensures.1 in
    rw (p.1, p.2)
    (explain_cause (setting c.args.machine.now c.args.scripts.now) _ _ _ _ c.in_err-order.ensures.err)

pub returns-in-None-clause-ok : goal.returns-in-None-clause-ok
returns-in-None-clause-ok g c =
    let start = setting c.args.machine.now c.args.scripts.now in
    let found = c.first_sought.new.aim in
    let became = c.first_sought.ensures.becomes in
    let begun : IsExplained start c.args.seen.now found.longest.items =
    rw (← c.new-explainer.ensures.seen)
    (became.3
    (rw c.new-explainer.ensures.none (start_explained start c.new-explainer.result.seen.now))) in
    rw c.into_longest.ensures
    (none_found start c.args.seen.now found.seen.now found.room found.longest.items
    (became.0 ∙ c.new-explainer.ensures.seen) (rw c.in-None.is at c.in_ok-order.ensures.ok) begun)
