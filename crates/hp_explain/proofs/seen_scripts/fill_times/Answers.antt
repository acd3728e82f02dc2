-- One more line from the last one on.
use Rattle.std.proofs.Common.{arith}
use Rattle.hp_explain.proofs.TimesFilled.{fill_all, fill_none, fill_step, filled_rise}
use Rattle.hp_explain.proofs.seen_scripts.fill_times.Goals as goal

pub loop-passed-init : goal.loop-passed-init
loop-passed-init c = fill_none c.args.lines.now

pub loop-passed-preserved : goal.loop-passed-preserved
loop-passed-preserved c =
    fill_step _ _ _ _ _ _ _ (omega arith) c.min-line.ensures c.loop-passed.invariant

pub returns-clause-rising : goal.returns-clause-rising
returns-clause-rising c =
    rw (fill_all _ _ _ _ c.loop-passed-test.false c.loop-passed.invariant) (filled_rise c.args.lines.now)

pub returns-clause-filled : goal.returns-clause-filled
returns-clause-filled c =
    fill_all _ _ _ _ c.loop-passed-test.false c.loop-passed.invariant
