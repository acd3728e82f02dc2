-- One turn more multiplies the coefficient by the number of all turns, and divides it by that of
-- the processor's.
use Rattle.std.proofs.Common.{arith, ◌≡◌}
use Rattle.std.proofs.lemmas.Nat.{mul-lt}
use Rattle.hp_schedules.proofs.Coefficients.{with_exceeded, with_next, with_none}
use Rattle.hp_schedules.proofs.multinomials.with_length.Goals as goal

pub loop-turn-init : goal.loop-turn-init
loop-turn-init c = record { coefficient = λ ns all is. with_none ns c.args.count is; fits = omega arith }

pub overflow_mul-more : goal.overflow_mul-more
overflow_mul-more c =
    omega (
      arith,
      mul-lt c.from.result c.from-in-loop-turn.result 18446744073709551616 18446744073709551616
          (omega (arith, c.from.ensures, c.loop-turn.invariant.fits))
          (omega (arith, c.from-in-loop-turn.ensures)),
    )

pub returns-then-more-from-clause-none : goal.returns-then-more-from-clause-none
returns-then-more-from-clause-none c =
    with_exceeded c.args.count c.args.total c.args.length c.args.limit c.loop-turn.turn c.loop-turn.reached
    c.from.result c.from-in-loop-turn.result c.from-in-loop-turn-2.result c.from-in-loop-turn-3.result
    c.loop-turn-test.true c.loop-turn.invariant.coefficient c.from.ensures c.from-in-loop-turn.ensures
    c.from-in-loop-turn-2.ensures c.from-in-loop-turn-3.ensures c.if-more-from.true

pub loop-turn-preserved : goal.loop-turn-preserved
loop-turn-preserved c =
    record {
      coefficient =
          with_next c.args.count c.args.total c.loop-turn.turn c.loop-turn.reached c.from.result
          c.from-in-loop-turn.result c.from-in-loop-turn-2.result c.loop-turn.invariant.coefficient
          c.from.ensures c.from-in-loop-turn.ensures c.from-in-loop-turn-2.ensures;
      fits = omega (arith, c.if-more-from.false, c.from-in-loop-turn-3.ensures);
    }

pub returns-clause-some : goal.returns-clause-some
returns-clause-some c =
    let all : c.loop-turn.turn ≡ c.args.length = omega arith in rw (← all) c.loop-turn.invariant.coefficient
