-- A call that a pass finds no room for is nearer than what any needs.
use Rattle.std.proofs.lemmas.Result.{err_from_is_err_and}
use Rattle.hp_explore.specs.Settings.{setting}
use Rattle.hp_explore.proofs.Budgets.{near_cause}
use Rattle.hp_explore.proofs.finding.nearest_below.Goals as goal

pub returns-in_err-schedule-clause-err : goal.returns-in_err-schedule-clause-err
returns-in_err-schedule-clause-err g c =
    let p = err_from_is_err_and c.from_residual.result c.from_residual.ensures.1 in
    rw (p.1, p.2)
    (near_cause (setting c.args.machine.now c.args.scripts.now) c.args.wanted.now c.loop-budget.budget
    c.args.below _ c.loop-budget.invariant.needs c.loop-budget-test.true c.in_err-schedule.ensures.err)
