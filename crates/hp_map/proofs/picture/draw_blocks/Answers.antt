use Rattle.hp_map.proofs.Pictures.{pictures_more}
use Rattle.hp_map.proofs.picture.draw_blocks.Goals as goal

pub loop-number-preserved : goal.loop-number-preserved
loop-number-preserved c =
    pictures_more c.args.machine.now.layout c.args.machine.now.state c.args.places.now.items
    c.loop-number.number _ _ _ c.loop-number.invariant c.in_ok-block.ensures
    c.in_ok-push.ensures.items
