use Rattle.hp_map.proofs.BlocksDecided.{kernel_equal}
use Rattle.hp_map.proofs.block_picture.are_kernel.Goals as goal

pub returns : goal.returns
returns c =
    rw c.eq.ensures (kernel_equal c.args.some.now c.args.others.now)
