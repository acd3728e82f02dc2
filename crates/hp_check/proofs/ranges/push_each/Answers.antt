use Rattle.std.proofs.Common.{None, refl}
use Rattle.std.proofs.lemmas.List.{take_all}
use Rattle.hp_check.specs.Adds.{IsLayout, out_fault}
use Rattle.hp_check.proofs.Added.{item_added, none_added, one_added}
use Rattle.hp_check.proofs.ranges.push_each.Goals as goal

pub loop-out-preserved-in_default : goal.loop-out-preserved-in_default
loop-out-preserved-in_default c =
    item_added out_fault _ _ None c.loop-out-test.true c.loop-out.invariant
    (rw c.in_default.is (none_added IsLayout _))

pub loop-out-preserved : goal.loop-out-preserved
loop-out-preserved c =
    item_added out_fault _ _ None c.loop-out-test.true c.loop-out.invariant
    (rw c.in-Some.is (one_added _ _ _ _ _ c.in_ok-push.ensures.items tt refl))

pub returns : goal.returns
returns c = rw (take_all _ _ c.loop-out-test.false) at c.loop-out.invariant
