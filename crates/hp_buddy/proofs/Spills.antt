-- A spill and a drain, one frame after another.
use Rattle.std.proofs.Common.{◌≡◌, ℕ, suc, ◌+◌, ◌*◌, ◌-◌, ◌<◌, ◌≤◌, List, [], ◌∷◌, ◌++◌, length, sym, ap, arith}
use Rattle.std.proofs.lemmas.List.{length-append, reverse-append, drop-append-le, take-append-le, get_or-set_same, set-set, set-get_or}
use Rattle.std.proofs.Math.Seq.{drop-length, take-length}
use Rattle.hp_units.specs.declared.rows.Pool.{Pool}
use Rattle.hp_units.specs.LayoutParts.{LayoutParts}
use Rattle.hp_units.specs.Memory.{FreeFrames, cached_list, with_cached_list, pool_index, zone_of_pool}
use Rattle.hp_units.specs.FreeAreas.{give_block}
use Rattle.hp_units.specs.ProcessorLists.{drain_pool}
use Rattle.hp_buddy.specs.Batches.{given_last}
use Rattle.hp_buddy.proofs.CpuCounts.{list_in}

-- a frame was given from a list, which keeps the others
abbrev pub given : LayoutParts → FreeFrames → ℕ → Pool → (frame : ℕ) → List ℕ → FreeFrames
given l fs cpu pool frame rest =
    with_cached_list (record fs { areas = give_block l fs.areas (zone_of_pool pool) frame 0 }) cpu pool rest

-- ---- a spill

-- nothing is given
pub given_last-zero : (l : LayoutParts) (fs : FreeFrames) (cpu : ℕ) (pool : Pool)
    → given_last l fs cpu pool 0 ≡ fs
given_last-zero l fs cpu pool =
    let xs : List ℕ = cached_list fs cpu pool in
    let all : length xs - 0 ≡ length xs = omega arith in
    rw (all, drop-length xs, take-length xs, set-get_or fs.cached (3 * cpu + pool_index pool) [])

-- the last frame is given, and then the others
given_last-suc : (l : LayoutParts) (fs : FreeFrames) (cpu : ℕ) (pool : Pool) (f count cpus : ℕ) (ys : List ℕ)
    → cpu < cpus → length fs.cached ≡ 3 * cpus
    → cached_list fs cpu pool ≡ ys ++ f ∷ [] → count ≤ length ys
    → given_last l fs cpu pool (suc count) ≡ given_last l (given l fs cpu pool f ys) cpu pool count
given_last-suc l fs cpu pool f count cpus ys low size is enough =
    let kept : ℕ = length ys - count in
    let same : length (ys ++ f ∷ []) - suc count ≡ kept = omega (arith, length-append ys (f ∷ [])) in
    grind (arith, get_or-set_same, list_in, drop-append-le, reverse-append, take-append-le, set-set)

-- the same for a loop that has given some of all
pub given_last-more : (l : LayoutParts) (fs gs : FreeFrames) (cpu : ℕ) (pool : Pool) (f done all cpus : ℕ)
    (ys : List ℕ)
    → cpu < cpus → length fs.cached ≡ 3 * cpus → done < all
    → all - done ≤ length (cached_list fs cpu pool) → cached_list fs cpu pool ≡ ys ++ f ∷ []
    → gs ≡ given l fs cpu pool f ys
    → given_last l fs cpu pool (all - done) ≡ given_last l gs cpu pool (all - (done + 1))
given_last-more l fs gs cpu pool f done all cpus ys low size below enough split is =
    let next : all - done ≡ suc (all - (done + 1)) = omega arith in
    let long : length (cached_list fs cpu pool) ≡ length ys + 1 = rw split (length-append ys (f ∷ [])) in
    rw (next, given_last-suc l fs cpu pool f (all - (done + 1)) cpus ys low size split (omega arith))
    (ap (λ (hs : FreeFrames). given_last l hs cpu pool (all - (done + 1))) (sym is))

-- ---- a drain

-- the front frame is given, and then the others
pub drain_pool-more : (l : LayoutParts) (fs gs : FreeFrames) (cpu : ℕ) (pool : Pool) (f cpus : ℕ)
    (rest : List ℕ)
    → cpu < cpus → length fs.cached ≡ 3 * cpus
    → cached_list fs cpu pool ≡ f ∷ rest → gs ≡ given l fs cpu pool f rest
    → drain_pool l cpu fs pool ≡ drain_pool l cpu gs pool
drain_pool-more l fs gs cpu pool f cpus rest low size front is =
    grind (arith, get_or-set_same, list_in, set-set)

-- an empty list gives nothing
pub drain_pool-none : (l : LayoutParts) (fs : FreeFrames) (cpu : ℕ) (pool : Pool)
    → cached_list fs cpu pool ≡ [] → drain_pool l cpu fs pool ≡ fs
drain_pool-none l fs cpu pool empty = rw (empty, ← empty, set-get_or fs.cached (3 * cpu + pool_index pool) [])
