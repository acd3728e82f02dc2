-- Why a pass failed.
use Rattle.std.proofs.lemmas.Result.{err_from_is_err_and}
use Rattle.hp_explore.specs.Settings.{setting}
use Rattle.hp_explore.proofs.Budgets.{nearer_cause}
use Rattle.hp_explore.proofs.finding.nearest_of_all.Goals as goal

pub returns-in_err-schedule-in-Some-clause-err : goal.returns-in_err-schedule-in-Some-clause-err
returns-in_err-schedule-in-Some-clause-err g c =
    let p = err_from_is_err_and c.from_residual-in_err-schedule-in-Some.result
    c.from_residual-in_err-schedule-in-Some.ensures.1 in
    let first = rw c.in-Some.is at c.in_ok-known.ensures.ok in
    rw (p.1, p.2)
    (nearer_cause (setting c.args.machine.now c.args.scripts.now) c.args.wanted.now c.in-Some.known.items _
    c.requires.from (first.0, first.2) c.in_err-schedule-in-Some.ensures.err)

pub returns-in-None-clause-ok : goal.returns-in-None-clause-ok
returns-in-None-clause-ok g c = (rw c.in-None.is at c.in_ok-known.ensures.ok).0
