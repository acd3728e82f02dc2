-- Moving many frames between a processor's list and the free areas.
use Rattle.std.specs.Prelude.{ℕ, ◌-◌, ◌++◌, length, take, drop, reverse}
use Rattle.hp_units.specs.declared.rows.Pool.{Pool}
use Rattle.hp_units.specs.LayoutParts.{LayoutParts}
use Rattle.hp_units.specs.Memory.{FreeFrames, cached_list, with_cached_list, zone_of_pool}
use Rattle.hp_units.specs.ProcessorLists.{Refill, take_frames, give_all}

-- the free frames after a refill: the taken frames are at the back of a processor's list
abbrev pub with_refill : FreeFrames → ℕ → Pool → Refill → FreeFrames
with_refill fs cpu pool refill =
    with_cached_list (record fs { areas = refill.areas }) cpu pool (cached_list fs cpu pool ++ refill.frames)

-- up to `count` frames are taken to the back of a processor's list
abbrev pub filled : LayoutParts → FreeFrames → (cpu : ℕ) → Pool → (count : ℕ) → FreeFrames
filled l fs cpu pool count = with_refill fs cpu pool (take_frames l pool count fs.areas)

-- the last `count` frames of a processor's list are given back, last frame first
abbrev pub given_last : LayoutParts → FreeFrames → (cpu : ℕ) → Pool → (count : ℕ) → FreeFrames
given_last l fs cpu pool count =
    let frames = cached_list fs cpu pool in
    let kept = length frames - count in
    with_cached_list
    (record fs { areas = give_all l fs.areas (zone_of_pool pool) (reverse (drop kept frames)) }) cpu pool
    (take kept frames)
