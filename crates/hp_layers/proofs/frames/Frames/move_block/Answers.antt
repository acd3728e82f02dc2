use Rattle.std.proofs.Common.{◌*◌}
use Rattle.hp_units.specs.Isolation.{move_pageblock}
use Rattle.hp_tape.specs.Bounds.{move_bound}
use Rattle.hp_layers.proofs.Given.{given-further}
use Rattle.hp_layers.proofs.Pageblocks.{pageblock-is}
use Rattle.hp_layers.proofs.frames.Frames.move_block.Goals as goal

pub loop-number-preserved : goal.loop-number-preserved
loop-number-preserved c =
    let l = c.args.layout.now in
    record {
      done =
          given-further l (λ k. move_pageblock k c.args.zone c.args.isolated) move_bound
          c.args.self.now.buddy.areas (c.args.block * l.pageblocks) c.loop-number.number _ c.args.self.now
          c.loop-number.self
          c.move_pageblock.new.self c.args.tape.now c.loop-number.tape c.move_pageblock.new.tape
          c.requires.same
          (pageblock-is c.loop-number.number c.block.view_is c.pageblocks-count.ensures.is)
          c.loop-number.invariant.done c.move_pageblock.ensures;
    }
