use Rattle.std.proofs.Common.{length, arith}
use Rattle.hp_tape.specs.Bounds.{moved_block_bound}
use Rattle.hp_layers.proofs.Begun.{plan-room}
use Rattle.hp_layers.proofs.layers.Layers.plan_room.Goals as goal

pub returns : goal.returns
returns c =
    let l = c.args.self.now.layout in
    rw c.moved_block_room.ensures.is
    (plan-room c.args.plan.now l.blocks (moved_block_bound l) c.min-items.result (length c.args.plan.now)
    c.blocks-2.result c.min-items.ensures (omega arith) (omega (arith, c.blocks-2.ensures.is)))
