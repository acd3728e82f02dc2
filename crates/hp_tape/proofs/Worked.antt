-- Worked deltas, computed: those of a Map that refills a processor's list, and of a kernel block
-- that changes a pageblock's mobility.
use Rattle.std.proofs.Common.{◌≡◌, List, [], ◌∷◌, Some, None, false, refl}
use Rattle.hp_tape.specs.declared.deltas.Delta.{Delta}
use Rattle.hp_tape.specs.declared.deltas.Delta.TheVariants.{Link, Unlink, Kind as KindDelta, Kernel as KernelDelta, Map as MapDelta}
use Rattle.hp_tape.specs.declared.deltas.ListId.TheVariants.{Area, Cpu}
use Rattle.hp_tape.specs.declared.frame_changes.FrameChange.TheVariants.{Mapped}
use Rattle.hp_units.specs.declared.rows.Class.TheVariants.{Nu, Nm, Mm}
use Rattle.hp_units.specs.declared.rows.Pool.TheVariants.{Mm as MmPool}
use Rattle.hp_units.specs.declared.rows.Mobility.TheVariants.{Unmovable, Movable}
use Rattle.hp_units.specs.declared.rows.Boot.TheVariants.{Normal as NormalBoot, Movable as MovableBoot, Offline as OfflineBoot}
use Rattle.hp_units.specs.declared.events.Event.{Event}
use Rattle.hp_units.specs.declared.events.Event.TheVariants.{KernelAlloc, Map}
use Rattle.hp_units.specs.LayoutParts.{LayoutParts}
use Rattle.hp_units.specs.FreeAreas.{take_block, steal_block}
use Rattle.hp_units.specs.ProcessorLists.{take_frames, take_one}
use Rattle.hp_units.specs.Rows.{online_block}
use Rattle.hp_units.specs.Refusals.{refusal_of}
use Rattle.hp_units.specs.Step.{kernel_takes, map_step, step}
use Rattle.hp_units.specs.Boot.{boot_memory}
use Rattle.hp_tape.specs.Deltas.{FrameView, frame_view_of, back, Fits, AllFit, undo}

abbrev small : LayoutParts
small =
    record {
      order = 2;
      pageblocks = 1;
      blocks = 4;
      cpus = 2;
      batch = 2;
      high = 2;
      owners = 2;
      pages = 8;
      words = 2;
      history = 1000;
      boot = NormalBoot ∷ NormalBoot ∷ MovableBoot ∷ OfflineBoot ∷ [];
    }

abbrev view_before : FrameView
view_before = frame_view_of small (boot_memory small)

abbrev view_after : Event → FrameView
view_after event = frame_view_of small (step small (boot_memory small) 1 0 event).memory

abbrev map_deltas : List Delta
map_deltas =
    Unlink (Area Mm 2) 8 None ∷ Link (Area Mm 1) 10 None ∷ Link (Area Mm 0) 9 None
    ∷ Link (Cpu MmPool 0) 8 None
    ∷ Unlink (Area Mm 0) 9 None ∷ Link (Cpu MmPool 0) 9 (Some 8) ∷ Unlink (Cpu MmPool 0) 8 None
    ∷ MapDelta 0 0 (Mapped 8) ∷ []

map_back : back map_deltas (view_after (Map 0 0)) ≡ view_before
unfolding take_block steal_block take_frames take_one online_block refusal_of map_step step boot_memory
map_back = refl

map_fits : AllFit Fits undo map_deltas (view_after (Map 0 0))
unfolding take_block steal_block take_frames take_one online_block refusal_of map_step step boot_memory
map_fits = search

abbrev kernel_deltas : List Delta
kernel_deltas =
    Unlink (Area Nm 2) 0 None ∷ KindDelta 0 (record { mobility = Movable; isolated = false })
    (record { mobility = Unmovable; isolated = false })
    ∷ Link (Area Nu 1) 2 None ∷ KernelDelta 0 None (Some 1) ∷ []

kernel_back : back kernel_deltas (view_after (KernelAlloc 1)) ≡ view_before
unfolding take_block steal_block take_frames take_one online_block refusal_of kernel_takes step boot_memory
kernel_back = refl
