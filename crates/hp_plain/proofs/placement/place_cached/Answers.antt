use Rattle.std.proofs.Common.{arith, ◌<◌, ◌∙◌, ap, length}
use Rattle.hp_units.specs.Memory.{FreeAreas}
use Rattle.hp_plain.proofs.PlacedLists.{cached_all, cached_more, cached_twice}
use Rattle.hp_plain.proofs.placement.place_cached.Goals as goal

pub returns-then-not-place_pool : goal.returns-then-not-place_pool
returns-then-not-place_pool c =
    let low : c.loop-number.number < length c.args.free.now.cached = omega arith in
    cached_twice c.args.layout.now c.args.free.now _ _ _ _ _ _ _ c.loop-number.invariant low
    c.pool_numbered-pool.ensures (c.kinds-kinds.ensures ∙ ap (λ (a : FreeAreas). a.kinds) c.areas.ensures)
    c.cached_list-frames.ensures (rw c.rows-rows.ensures at c.if-not-place_pool.ensures)

pub loop-number-preserved : goal.loop-number-preserved
loop-number-preserved c =
    let low : c.loop-number.number < length c.args.free.now.cached = omega arith in
    cached_more c.args.layout.now c.args.free.now _ _ _ _ _ _ _ _ c.loop-number.invariant low
    c.pool_numbered-pool.ensures (c.kinds-kinds.ensures ∙ ap (λ (a : FreeAreas). a.kinds) c.areas.ensures)
    c.cached_list-frames.ensures (rw c.rows-rows.ensures at c.if-not-place_pool.ensures)

pub returns : goal.returns
returns c = cached_all c.args.layout.now c.args.free.now _ _ _ _ c.loop-number.invariant (omega arith)
