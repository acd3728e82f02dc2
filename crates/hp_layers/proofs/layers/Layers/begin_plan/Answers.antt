-- One block further.
use Rattle.std.proofs.Common.{arith}
use Rattle.hp_layers.proofs.Claims.{begin-room, begun-further}
use Rattle.hp_layers.proofs.Unclaimed.{later-stays, unclaimed-still}
use Rattle.hp_layers.proofs.layers.Layers.begin_plan.Goals as goal

pub begin_block-requires-clause-room : goal.begin_block-requires-clause-room
begin_block-requires-clause-room c =
    begin-room c.args.self.now c.loop-number.self _ c.args.plan.now c.loop-number.number c.args.tape.now
    c.loop-number.tape (omega (arith, c.loop-number-test.true, c.blocks-number-end.ensures.is))
    c.loop-number.invariant.done c.requires.room

pub begin_block-requires-clause-free : goal.begin_block-requires-clause-free
begin_block-requires-clause-free c =
    unclaimed-still c.args.plan.now c.loop-number.self.blocks.blocks c.args.self.now.blocks.blocks
    c.loop-number.number (c.loop-number.invariant.later c.loop-number.number (omega arith)) c.requires.free

pub loop-number-preserved : goal.loop-number-preserved
loop-number-preserved c =
    record {
      done =
          begun-further c.args.self.now c.loop-number.self c.begin_block.new.self c.args.op c.args.plan.now
          c.loop-number.number c.args.tape.now c.loop-number.tape c.begin_block.new.tape
          c.loop-number.invariant.done c.begin_block.ensures;
      later = λ block above.
          later-stays c.args.self.now c.loop-number.self c.begin_block.new.self c.args.op c.args.plan.now
          c.loop-number.number block (λ same. absurd (omega (arith, above, same)))
          c.begin_block.ensures.state (c.loop-number.invariant.later block (omega (arith, above)));
    }
