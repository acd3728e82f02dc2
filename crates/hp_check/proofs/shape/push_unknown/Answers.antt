use Rattle.std.proofs.Common.{false, true, ◌&&◌}
use Rattle.hp_check.specs.Adds.{IsShape}
use Rattle.hp_check.proofs.Added.{both_lack, none_added}
use Rattle.hp_check.proofs.shape.push_unknown.Goals as goal

pub loop-name-init : goal.loop-name-init
loop-name-init c = (true, none_added IsShape _)

pub loop-name-preserved : goal.loop-name-preserved
loop-name-preserved c =
    let fine = c.loop-name.invariant.0 in
    (fine && false, both_lack fine false c.loop-name.invariant.1 c.in_ok-push.ensures)
