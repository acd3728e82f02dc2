use Rattle.hp_map.proofs.BlocksDecided.{free_equal}
use Rattle.hp_map.proofs.block_picture.are_free.Goals as goal

pub returns : goal.returns
returns c =
    rw c.eq.ensures (free_equal c.args.some.now c.args.others.now)
