use Rattle.std.proofs.Common.{◌≡◌, ◌<◌, ◌+◌, ◌*◌, ◌^◌, ◌%◌, refl, ◌∙◌, arith}
use Rattle.hp_units.specs.Memory.{usable_class}
use Rattle.hp_units.specs.FreeAreas.{with_back}
use Rattle.hp_plain.specs.Names.{Movable}
use Rattle.hp_plain.proofs.FramesInLayout.{class_below}
use Rattle.hp_plain.proofs.ListWalks.{adds_pageblock, keeps_pageblock}
use Rattle.hp_plain.proofs.frames.add_block.Goals as goal

pub add_back-requires : goal.add_back-requires
add_back-requires c =
    omega (arith, class_below c.usable.result, c.loop-number.invariant.layout.lists, c.order.ensures.is)

pub loop-number-preserved : goal.loop-number-preserved
loop-number-preserved c =
    let l = c.args.layout.now in
    let zone = c.args.zone in
    let block = c.args.block in
    let number = c.loop-number.number in
    let low : number < l.pageblocks = omega arith in
    let added : c.add_back.new.self ≡ with_back c.loop-number.areas (usable_class zone Movable) l.order
    ((block * l.pageblocks + number) * 2 ^ l.order % 2 ^ 32) =
    c.in_ok-add_back.ensures.value ∙ rw (
      c.usable.ensures,
      c.order.ensures.is,
      c.block.view_is,
      c.pageblocks.ensures.is,
      c.order-in-loop-number.ensures.is,
    ) refl in
    let walked = rw (c.block.view_is, c.pageblocks.ensures.is) at c.loop-number.invariant.value in
    record {
      value =
          rw (c.block.view_is, c.pageblocks.ensures.is) (adds_pageblock l zone c.args.areas.now
          c.loop-number.areas c.add_back.new.self block number c.order.ensures.layout c.requires.block low
          walked added);
      layout =
          keeps_pageblock l zone c.loop-number.areas c.add_back.new.self block number c.order.ensures.layout
          c.requires.block low c.loop-number.invariant.layout added;
    }
