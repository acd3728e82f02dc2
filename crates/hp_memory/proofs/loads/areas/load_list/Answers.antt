use Rattle.std.proofs.Common.{◌∙◌, arith}
use Rattle.hp_memory.proofs.Lists.{area-fits, area-next}
use Rattle.hp_memory.proofs.FilledLists.{area-numbers, next-of}
use Rattle.hp_memory.proofs.loads.areas.load_list.Goals as goal

pub back-requires-clause-fits : goal.back-requires-clause-fits
back-requires-clause-fits c =
    rw c.of_area.ensures
    (area-fits c.args.image.now.layout c.args.image.now.memory c.args.class c.args.order
    c.loop-number.number _ c.index-frames-frames.result c.list-frames.result.now c.args.buddy.now.areas
    c.loop-number.buddy.areas c.requires.placed c.requires.order c.list-frames.ensures (next-of
    c.list-frames.result.now c.loop-number.number (omega (arith, c.loop-number-test.true))
    c.index-frames-frames.is) c.requires.partly c.loop-number.invariant.areas)

pub back-requires-clause-numbers : goal.back-requires-clause-numbers
back-requires-clause-numbers c =
    rw c.of_area.ensures
    (area-numbers c.args.image.now.layout c.loop-number.buddy.layout c.args.image.now.memory c.args.class
    c.args.order c.loop-number.number _ c.index-frames-frames.result c.list-frames.result.now
    c.requires.limits c.requires.placed (c.loop-number.invariant.layout ∙ c.requires.layout) c.requires.order
    c.list-frames.ensures
    (next-of c.list-frames.result.now c.loop-number.number (omega (arith, c.loop-number-test.true))
    c.index-frames-frames.is))

pub loop-number-preserved : goal.loop-number-preserved
loop-number-preserved c = record {
  areas =
      area-next c.args.class c.args.order c.loop-number.number _ c.index-frames-frames.result
      c.list-frames.result.now c.args.buddy.now.areas c.loop-number.buddy.areas c.back.new.self.areas
      (omega (arith, c.requires.partly.size, c.requires.placed.in_order.shape.lists, c.requires.order))
      (next-of c.list-frames.result.now c.loop-number.number (omega (arith, c.loop-number-test.true))
      c.index-frames-frames.is)
      c.loop-number.invariant.areas (rw c.of_area.ensures at c.back.ensures.back);
  layout = c.back.ensures.layout ∙ c.loop-number.invariant.layout;
}
