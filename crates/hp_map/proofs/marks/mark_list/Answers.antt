use Rattle.hp_map.proofs.MarkLemmas.{list_more}
use Rattle.hp_map.proofs.marks.mark_list.Goals as goal

pub loop-frame-preserved : goal.loop-frame-preserved
loop-frame-preserved c =
    list_more c.args.frames.now c.loop-frame.frame-index c.frame-item.result c.args.place.now _ _ _
    c.loop-frame-test.true c.frame-item.is c.loop-frame.invariant c.set_place.ensures
