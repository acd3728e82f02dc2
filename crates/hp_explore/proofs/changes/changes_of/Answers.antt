-- One call more.
use Rattle.std.proofs.Common.{arith}
use Rattle.hp_explore.proofs.Budgets.{changes_more}
use Rattle.hp_explore.proofs.changes.changes_of.Goals as goal

pub loop-index-preserved : goal.loop-index-preserved
loop-index-preserved c = record {
  so_far =
      changes_more c.args.schedule.now c.loop-index.index c.loop-index.count c.change-count.result
      c.index-schedule-index.result c.index-schedule-index-in-loop-index.result c.loop-index.auto.index
      c.loop-index-test.true c.loop-index.invariant.so_far c.index-schedule-index.is
      c.index-schedule-index-in-loop-index.is c.change-count.ensures.is;
  few = omega (arith, c.loop-index.invariant.few, c.change-count.ensures.one);
}
