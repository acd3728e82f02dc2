use Rattle.hp_text.proofs.Counts.{counts_more}
use Rattle.hp_text.proofs.zones.write_counts.Goals as goal

pub loop-order-preserved : goal.loop-order-preserved
loop-order-preserved c =
    counts_more c.args.memory.now.state.free.areas c.args.zone c.loop-order.order _ _ _ _
    c.loop-order.invariant c.zone_count.ensures c.in_ok-write_count.ensures
