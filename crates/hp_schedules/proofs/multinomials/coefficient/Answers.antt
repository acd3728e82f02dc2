-- The coefficient of the lengths so far is no more than that of all.
use Rattle.std.proofs.Common.{arith}
use Rattle.hp_schedules.proofs.Coefficients.{all_counted, all_exceed, exceeded}
use Rattle.hp_schedules.proofs.multinomials.coefficient.Goals as goal

pub returns-in-None-clause-none : goal.returns-in-None-clause-none
returns-in-None-clause-none c =
    λ m is. exceeded c.args.lengths.now m c.loop-length.count c.loop-length.total c.loop-length.length-index
    c.args.limit c.loop-length-test.true c.loop-length.invariant.count c.loop-length.invariant.total
    c.in-None.ensures.none is

pub returns-then-count-limit-clause-none : goal.returns-then-count-limit-clause-none
returns-then-count-limit-clause-none c =
    all_exceed c.args.lengths.now c.loop-length.count c.loop-length.length-index c.args.limit
    c.loop-length-test.false c.loop-length.invariant.count c.if-count-limit.true

pub returns-clause-some : goal.returns-clause-some
returns-clause-some c = (
  all_counted c.args.lengths.now c.loop-length.count c.loop-length.length-index c.loop-length-test.false
      c.loop-length.invariant.count,
  omega (arith, c.if-count-limit.false),
)
