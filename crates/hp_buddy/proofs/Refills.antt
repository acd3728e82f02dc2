-- A refill, one frame after another.
use Rattle.std.proofs.Common.{◌≡◌, ℕ, suc, ◌+◌, ◌*◌, ◌-◌, ◌<◌, List, [], ◌∷◌, ◌++◌, length, Some, None, sym, ◌∙◌, ap, arith}
use Rattle.std.proofs.lemmas.List.{append_assoc, append-nil, length-append, get_or-set_same, set-set, set-get_or}
use Rattle.hp_units.specs.declared.rows.Pool.{Pool}
use Rattle.hp_units.specs.LayoutParts.{LayoutParts}
use Rattle.hp_units.specs.Memory.{FreeAreas, FreeFrames, cached_list, with_cached_list, class_of_pool}
use Rattle.hp_units.specs.FreeAreas.{take_block}
use Rattle.hp_units.specs.ProcessorLists.{Refill, with_first, take_frames, refilled, take_one}
use Rattle.hp_buddy.specs.Batches.{with_refill, filled}
use Rattle.hp_buddy.specs.Cpus.{CpusValue, list_of, with_list_of}
use Rattle.hp_buddy.proofs.CpuCounts.{HasLists, list_in, list_of-same}

-- if nothing was taken, a list gets no frames
with_refill-none : (fs : FreeFrames) (cpu : ℕ) (pool : Pool)
    → with_refill fs cpu pool (record { areas = fs.areas; frames = [] }) ≡ fs
with_refill-none fs cpu pool = grind (arith, append-nil, set-get_or)

-- no frame is asked for
pub filled-zero : (l : LayoutParts) (fs : FreeFrames) (cpu : ℕ) (pool : Pool) → filled l fs cpu pool 0 ≡ fs
unfolding take_frames
filled-zero l fs cpu pool = with_refill-none fs cpu pool

-- there is no frame to take
pub filled-none : (l : LayoutParts) (fs : FreeFrames) (cpu : ℕ) (pool : Pool) (count : ℕ)
    → take_block l fs.areas (class_of_pool pool) 0 ≡ None → filled l fs cpu pool count ≡ fs
unfolding take_frames
filled-none l fs cpu pool count none = grind (arith, with_refill-none)

-- the frames after the first one
with_refill-more : (fs : FreeFrames) (a : FreeAreas) (cpu : ℕ) (pool : Pool) (f cpus : ℕ) (refill : Refill)
    → cpu < cpus → length fs.cached ≡ 3 * cpus
    → with_refill fs cpu pool (with_first f refill) ≡ with_refill (with_cached_list (record fs { areas = a })
    cpu pool (cached_list fs cpu pool ++ f ∷ [])) cpu pool refill
with_refill-more fs a cpu pool f cpus refill low size =
    grind (arith, get_or-set_same, list_in, set-set, append_assoc)

-- one frame is taken, and then the others
filled-suc : (l : LayoutParts) (fs : FreeFrames) (a : FreeAreas) (cpu : ℕ) (pool : Pool) (f count cpus : ℕ)
    → cpu < cpus → length fs.cached ≡ 3 * cpus
    → take_block l fs.areas (class_of_pool pool) 0 ≡ Some (record { areas = a; frame = f })
    → filled l fs cpu pool (suc count) ≡ filled l
    (with_cached_list (record fs { areas = a }) cpu pool (cached_list fs cpu pool ++ f ∷ [])) cpu pool count
unfolding take_frames
filled-suc l fs a cpu pool f count cpus low size some =
    rw some (with_refill-more fs a cpu pool f cpus (take_frames l pool count a) low size)

-- the same for a loop that has taken some of all
pub filled-more : (l : LayoutParts) (fs gs : FreeFrames) (a : FreeAreas) (cpu : ℕ) (pool : Pool)
    (f done all cpus : ℕ)
    → cpu < cpus → length fs.cached ≡ 3 * cpus → done < all
    → take_block l fs.areas (class_of_pool pool) 0 ≡ Some (record { areas = a; frame = f })
    → gs ≡ with_cached_list (record fs { areas = a }) cpu pool (cached_list fs cpu pool ++ f ∷ [])
    → filled l fs cpu pool (all - done) ≡ filled l gs cpu pool (all - (done + 1))
filled-more l fs gs a cpu pool f done all cpus low size below some is =
    let next : all - done ≡ suc (all - (done + 1)) = omega arith in
    rw (next, filled-suc l fs a cpu pool f (all - (done + 1)) cpus low size some)
    (ap (λ (hs : FreeFrames). filled l hs cpu pool (all - (done + 1))) (sym is))

-- ---- one frame from a list

-- an empty list is filled
pub refilled-empty : (l : LayoutParts) (fs : FreeFrames) (cpu : ℕ) (pool : Pool)
    → cached_list fs cpu pool ≡ [] → filled l fs cpu pool l.batch ≡ refilled l fs cpu pool
refilled-empty l fs cpu pool empty = cc

-- any other list stays
pub refilled-some : (l : LayoutParts) (fs : FreeFrames) (cpu : ℕ) (pool : Pool)
    → 0 < length (cached_list fs cpu pool) → fs ≡ refilled l fs cpu pool
refilled-some l fs cpu pool some = grind arith

-- the front frame of the list is taken
pub taken-some : (l : LayoutParts) (fs gs new : FreeFrames) (cpu : ℕ) (pool : Pool) (f : ℕ) (rest : List ℕ)
    → gs ≡ refilled l fs cpu pool → cached_list gs cpu pool ≡ f ∷ rest
    → new ≡ with_cached_list gs cpu pool rest
    → take_one l fs cpu pool ≡ Some (record { free = new; frame = f })
unfolding take_one
taken-some l fs gs new cpu pool f rest is front popped = rw (← is, front, ← popped)

-- no frame is taken
pub taken-none : (l : LayoutParts) (fs gs : FreeFrames) (cpu : ℕ) (pool : Pool) → gs ≡ refilled l fs cpu pool
    → cached_list gs cpu pool ≡ [] → take_one l fs cpu pool ≡ None
unfolding take_one
taken-none l fs gs cpu pool is empty = rw (← is, empty)

-- ---- a list that got a frame

-- the list after that
pub pushed-some : (v new : CpusValue) (cpu : ℕ) (pool : Pool) (f : ℕ) → HasLists v → cpu < v.layout.cpus
    → new ≡ with_list_of v cpu pool (list_of v cpu pool ++ f ∷ []) → list_of new cpu pool ≡ [] → ⊥
pushed-some v new cpu pool f size low is empty =
    let list : list_of new cpu pool ≡ list_of v cpu pool ++ f ∷ [] = grind (arith, list_of-same) in
    let none : length (list_of new cpu pool) ≡ 0 = ap length empty in
    omega (arith, ap length list ∙ length-append (list_of v cpu pool) (f ∷ []))
