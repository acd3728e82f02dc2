-- All lengths are summed, or those so far are too many.
use Rattle.std.proofs.lemmas.List.{take_all}
use Rattle.std.proofs.Common.{arith}
use Rattle.hp_schedules.proofs.Coefficients.{over_summed}
use Rattle.hp_schedules.proofs.multinomials.total.Goals as goal

pub returns-in-None-clause-none : goal.returns-in-None-clause-none
returns-in-None-clause-none c =
    over_summed c.args.lengths.now c.loop-length.total c.loop-length.length-index c.loop-length-test.true
    c.loop-length.invariant.total c.in-None.ensures

pub returns-clause-some : goal.returns-clause-some
returns-clause-some c =
    let all =
    rw (take_all c.loop-length.length-index c.args.lengths.now c.loop-length-test.false) at
    c.loop-length.invariant.total in
    (all, omega (arith, all, c.loop-length.invariant.fits))
