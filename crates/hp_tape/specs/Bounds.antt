-- The maximum number of deltas of a layer's call, and of a step.
use Rattle.std.specs.Prelude.{ℕ, ◌+◌, ◌*◌, ◌^◌, List, [], ◌∷◌, length, nat_le, if◌then◌else◌}
use Rattle.hp_units.specs.declared.rows.Pool.TheVariants.{Nu as NuPool, Nm as NmPool, Mm as MmPool}
use Rattle.hp_units.specs.declared.events.Event.{Event}
use Rattle.hp_units.specs.declared.events.Event.TheVariants.{KernelAlloc, KernelFree, Map, Unmap, Write, Read, Drain, Online, Begin, DrainFor, Migrate, Commit, Cancel, UndoAfter, Probe, Remove, SetAuto}
use Rattle.hp_units.specs.LayoutParts.{LayoutParts}
use Rattle.hp_units.specs.Arithmetic.{pageblock_of}
use Rattle.hp_units.specs.Memory.{FreeFrames, Memory, cached_list, kind_of, pool_of}
use Rattle.hp_units.specs.declared.rows.Pool.{Pool}
use Rattle.hp_units.specs.declared.rows.Zone.{Zone}
use Rattle.hp_units.specs.Rows.{blocks_of}

-- ---- the most deltas of a layer's call

-- taking a block
abbrev pub take_bound : LayoutParts → ℕ
take_bound l = l.order + 1

-- giving a block back
abbrev pub give_bound : LayoutParts → ℕ
give_bound l = l.order + 1

-- stealing a block
abbrev pub steal_bound : LayoutParts → ℕ
steal_bound l = l.order + 2

-- isolating or releasing a pageblock
abbrev pub move_bound : LayoutParts → ℕ
move_bound l = 1 + 2 * 2 ^ l.order

-- moving a batch of single frames between the areas and a processor's list, and one frame more
abbrev pub batch_bound : LayoutParts → ℕ
batch_bound l = l.batch * (l.order + 2) + 1

-- taking one frame from a list: one delta if the list has a frame, otherwise `batch_bound`
abbrev pub take_one_from : LayoutParts → List ℕ → ℕ
take_one_from l [] = batch_bound l
take_one_from l (frame ∷ frames) = 1

-- taking one frame from a processor's list
abbrev pub take_one_bound : LayoutParts → FreeFrames → (cpu : ℕ) → Pool → ℕ
take_one_bound l fs cpu pool = take_one_from l (cached_list fs cpu pool)

-- giving one frame back: `give_bound` if its pageblock is isolated; otherwise one delta, or
-- `batch_bound` if the list gets longer than `high`
abbrev pub put_one_bound : LayoutParts → FreeFrames → (cpu : ℕ) → Zone → (frame : ℕ) → ℕ
put_one_bound l fs cpu zone frame =
    let kind = kind_of fs.areas (pageblock_of l frame) in
    if kind.isolated then give_bound l
    else (if nat_le (length (cached_list fs cpu (pool_of zone kind.mobility)) + 1) l.high then 1 else
    batch_bound l)

-- how many frames are on a processor's lists
abbrev pub cached_frames : FreeFrames → ℕ → ℕ
cached_frames fs cpu =
    length (cached_list fs cpu NuPool) + length (cached_list fs cpu NmPool)
    + length (cached_list fs cpu MmPool)

-- giving all frames on a processor's lists back to the areas
abbrev pub drain_bound : LayoutParts → FreeFrames → (cpu : ℕ) → ℕ
drain_bound l fs cpu = cached_frames fs cpu * (l.order + 2)

-- ---- the most deltas of an event

-- isolating or releasing a memory block
abbrev pub moved_block_bound : LayoutParts → ℕ
moved_block_bound l = 1 + l.pageblocks * (1 + 2 * 2 ^ l.order)

-- committing a memory block
abbrev pub committed_block_bound : LayoutParts → ℕ
committed_block_bound l = 1 + 2 * l.pageblocks

-- taking a memory block online
abbrev pub online_bound : LayoutParts → ℕ
online_bound l = 1 + l.pageblocks

-- the bound of each event
abbrev pub delta_bound : LayoutParts → Memory → Event → ℕ
delta_bound l s (KernelAlloc order) = l.batch * (l.order + 2) + 3
delta_bound l s (KernelFree frame) = l.batch * (l.order + 2) + 2
delta_bound l s (Map owner page) = l.batch * (l.order + 2) + 3
delta_bound l s (Unmap owner page) = l.batch * (l.order + 2) + 3
delta_bound l s (Write owner page index value) = 1
delta_bound l s (Read owner page index) = 0
delta_bound l s (Drain drained) = drain_bound l s.free drained
delta_bound l s (Online block zone) = online_bound l
delta_bound l s (Begin plan) = length plan * moved_block_bound l
delta_bound l s (DrainFor op drained) = drain_bound l s.free drained
delta_bound l s (Migrate op) = 2 * l.order + 5
delta_bound l s (Commit op) = length (blocks_of l s.blocks op) * committed_block_bound l
delta_bound l s (Cancel op) = length (blocks_of l s.blocks op) * moved_block_bound l
delta_bound l s (UndoAfter serial) = 0
delta_bound l s (Probe address) = online_bound l
delta_bound l s (Remove block) = 1
delta_bound l s (SetAuto auto) = 1
