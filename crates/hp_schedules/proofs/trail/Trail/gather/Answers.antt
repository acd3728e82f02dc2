-- One share more is in the sums, and in the end all are.
use Rattle.std.proofs.Common.{arith}
use Rattle.hp_schedules.proofs.Trails.{gathered_all, gathered_more, gathered_none}
use Rattle.hp_schedules.proofs.trail.Trail.gather.Goals as goal

pub loop-at-init : goal.loop-at-init
loop-at-init c = gathered_none c.args.start c.args.self.now.shares.items

pub loop-at-preserved : goal.loop-at-preserved
loop-at-preserved c =
    gathered_more _ _ _ _ _ _ _ c.loop-at.invariant c.sum_up-end.ensures

pub returns : goal.returns
returns c =
    gathered_all c.args.start c.loop-at.at c.loop-at.end c.args.self.now.shares.items
    c.loop-at.self.shares.items c.truncate.new.self.items
    (omega (arith, c.loop-at-test.false, c.len-at-end.ensures))
    (omega (arith, c.loop-at.invariant.to, c.loop-at.auto.at-end, c.requires.within, c.len-at-end.ensures))
    c.truncate.ensures.items c.loop-at.invariant
