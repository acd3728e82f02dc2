-- One pageblock further.
use Rattle.std.proofs.Common.{◌+◌, ◌*◌, ◌<◌, sym, arith}
use Rattle.hp_units.specs.Isolation.{remove_pageblock}
use Rattle.hp_layers.proofs.Given.{given-further}
use Rattle.hp_layers.proofs.Pageblocks.{pageblock-is}
use Rattle.hp_layers.proofs.frames.Frames.remove_block.Goals as goal

pub remove_pageblock-requires-clause-free : goal.remove_pageblock-requires-clause-free
remove_pageblock-requires-clause-free c =
    let l = c.args.layout.now in
    let at = pageblock-is c.loop-number.number c.block.view_is c.pageblocks-count.ensures.is in
    let below : c.loop-number.number < l.pageblocks =
    omega (arith, c.loop-number-test.true, c.pageblocks-count.ensures.is) in
    rw (← sym at) (c.loop-number.invariant.free (c.args.block * l.pageblocks + c.loop-number.number)
    (omega arith) (omega (arith, below)))

pub loop-number-preserved : goal.loop-number-preserved
loop-number-preserved c =
    let l = c.args.layout.now in
    let at = pageblock-is c.loop-number.number c.block.view_is c.pageblocks-count.ensures.is in
    record {
      done =
          given-further l (λ k. remove_pageblock k c.args.zone) (λ k. 2) c.args.self.now.buddy.areas
          (c.args.block * l.pageblocks) c.loop-number.number _ c.args.self.now c.loop-number.self
          c.remove_pageblock.new.self c.args.tape.now c.loop-number.tape c.remove_pageblock.new.tape
          c.requires.same at c.loop-number.invariant.done c.remove_pageblock.ensures.given;
      free =
          λ other above below. c.remove_pageblock.ensures.stays other (λ same. absurd
          (omega (arith, at, same, above))) (c.loop-number.invariant.free other (omega (arith, above)) below);
    }
