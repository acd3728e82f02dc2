use Rattle.std.proofs.Common.{arith, ◌<◌, length, refl}
use Rattle.hp_plain.proofs.PlacedLists.{free_all, free_more, free_twice}
use Rattle.hp_plain.proofs.placement.place_free.Goals as goal

pub returns-then-not-place_list : goal.returns-then-not-place_list
returns-then-not-place_list c =
    let low : c.loop-number.number < length c.args.areas.now.lists = omega arith in
    free_twice c.args.layout.now c.args.areas.now _ _ _ _ _ _ c.loop-number.invariant low
    c.numbered-class.ensures refl
    (rw (c.kinds-kinds.ensures, c.rows-rows.ensures, c.free_list-frames.ensures)
    at c.if-not-place_list.ensures)

pub loop-number-preserved : goal.loop-number-preserved
loop-number-preserved c =
    let low : c.loop-number.number < length c.args.areas.now.lists = omega arith in
    free_more c.args.layout.now c.args.areas.now _ _ _ _ _ _ _ c.loop-number.invariant low
    c.numbered-class.ensures refl
    (rw (c.kinds-kinds.ensures, c.rows-rows.ensures, c.free_list-frames.ensures)
    at c.if-not-place_list.ensures)

pub returns : goal.returns
returns c =
    free_all c.args.layout.now c.args.areas.now _ _ _ _ c.loop-number.invariant (omega arith)
