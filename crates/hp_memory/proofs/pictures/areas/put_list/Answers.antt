use Rattle.std.proofs.Common.{◌∙◌, ap, arith}
use Rattle.hp_memory.proofs.Conversions.{free-added, free-part}
use Rattle.hp_memory.proofs.pictures.areas.put_list.Goals as goal

pub add-requires : goal.add-requires
add-requires c =
    free-part c.args.class c.args.order c.loop-number.number c.requires.within (ap (λ i. i.layout)
    c.loop-number.invariant.same ∙ c.requires.layout) c.requires.order (c.as_slice-frames.ensures.value ∙
    c.in_ok-list.ensures) (omega (arith, c.loop-number-test.true)) c.index-frames-number.is

pub loop-number-preserved : goal.loop-number-preserved
loop-number-preserved c = record {
  same =
      free-added c.args.image.now c.args.class c.args.order c.loop-number.number c.as_slice-frames.result.now
      c.requires.size (omega (arith, c.loop-number-test.true)) c.index-frames-number.is
      c.loop-number.invariant.same c.in_ok-add.ensures.ok;
}
