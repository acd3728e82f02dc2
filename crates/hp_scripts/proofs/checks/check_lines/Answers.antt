-- Each line so far can stand in a script, or this one is the first that cannot.
use Rattle.std.proofs.Common.{refl}
use Rattle.std.proofs.lemmas.Option.{slice_get_read}
use Rattle.std.proofs.lemmas.Result.{err_from_is_err_and}
use Rattle.hp_scripts.proofs.Lists.{first_unfit, fit_more}
use Rattle.hp_scripts.proofs.checks.check_lines.Goals as goal

pub loop-index-preserved : goal.loop-index-preserved
loop-index-preserved c =
    fit_more c.args.cpus c.args.lines.now c.loop-index.index c.index-lines-index.result c.loop-index.invariant
    (slice_get_read _ _ _ _ refl c.loop-index-test.true c.index-lines-index.is) c.in_ok-check_line.ensures.ok

pub returns-in_err-check_line-clause-err : goal.returns-in_err-check_line-clause-err
returns-in_err-check_line-clause-err c =
    let p = err_from_is_err_and c.from_residual.result c.from_residual.ensures.1 in
    rw (p.1, p.2)
    (first_unfit c.args.cpus c.args.before c.args.lines.now c.loop-index.index _ c.index-lines-index.result _
    refl (slice_get_read _ _ _ _ refl c.loop-index-test.true c.index-lines-index.is) c.loop-index.invariant
    c.in_err-check_line.ensures.err)
