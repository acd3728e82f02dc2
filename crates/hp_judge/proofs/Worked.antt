-- Worked logs, computed: what each step writes, and what an undo and a Cancel take back.
use Rattle.std.proofs.Common.{◌≡◌, ℕ, List, [], ◌∷◌, true, false, refl}
use Rattle.hp_units.specs.declared.plans.Item.{Item}
use Rattle.hp_units.specs.declared.rows.Boot.TheVariants.{Offline as OfflineBoot, Normal as NormalBoot, Movable as MovableBoot}
use Rattle.hp_units.specs.declared.rows.Wish.TheVariants.{Off as OffWish, Normal as NormalWish}
use Rattle.hp_units.specs.Boot.{boot_memory}
use Rattle.hp_units.specs.LayoutParts.{LayoutParts}
use Rattle.hp_units.proofs.Script.{everything, played}
use Rattle.hp_laws.proofs.Names.{Begin, Cancel, Commit, Drain, Event, KernelAlloc, KernelFree, Map, Migrate, Online, UndoAfter, Unmap}
use Rattle.hp_judge.specs.Logs.{log_of}
use Rattle.hp_judge.specs.LawfulNames.{LogEvent, Alloc, Free, Move, OnlineBegins, OnlineEnds, OfflineBegins, OfflineEnds, NormalZone, MovableZone}

-- three blocks of two frames, in zone Normal, in zone Movable, and offline
abbrev small : LayoutParts
small =
    record {
      order = 1;
      pageblocks = 1;
      blocks = 3;
      cpus = 1;
      batch = 1;
      high = 1;
      owners = 1;
      pages = 2;
      words = 1;
      history = 100;
      boot = (NormalBoot ∷ MovableBoot ∷ OfflineBoot ∷ []);
    }

-- the log of calls from boot on, all by processor 0
abbrev written : List (ℕ × Event) → List LogEvent
written calls = log_of small (boot_memory small) (played small (boot_memory small) 0 [] calls)

abbrev off_1 : List Item
off_1 = record { block = 1; wish = OffWish } ∷ []

abbrev on_2 : List Item
on_2 = record { block = 2; wish = NormalWish } ∷ []

-- a page is mapped, its block goes offline, and all but the mapping is undone
offline_undone : written ((0, Map 0 0) ∷ (0, Begin off_1) ∷ (0, Drain 0) ∷ (0, Migrate 2) ∷ (0, Commit 2)
    ∷ (0, UndoAfter 1) ∷ [])
    ≡ (Alloc 2 0 true
    ∷ OfflineBegins 1
    ∷ Move 2 0
    ∷ OfflineEnds 1 true
    ∷ Free 0 0 ∷ OnlineBegins 1 MovableZone ∷ OnlineEnds 1 true ∷ Alloc 2 0 true ∷ [])
unfolding everything
offline_undone = refl

-- an offline and an online that are cancelled, and one that commits
cancelled : written ((0, Begin off_1) ∷ (0, Cancel 1) ∷ (0, Begin on_2) ∷ (0, Cancel 3) ∷ (0, Begin on_2)
    ∷ (0, Commit 5) ∷ [])
    ≡ (OfflineBegins 1 ∷ OfflineEnds 1 false ∷ OnlineBegins 2 NormalZone ∷ OnlineEnds 2 false
    ∷ OnlineBegins 2 NormalZone ∷ OnlineEnds 2 true ∷ [])
unfolding everything
cancelled = refl

-- blocks of the kernel, and calls that change nothing or are refused
kernel_blocks : written ((0, KernelAlloc 1) ∷ (0, KernelAlloc 0) ∷ (0, Unmap 0 0) ∷ (0, Drain 0)
    ∷ (0, KernelFree 0) ∷ [])
    ≡ (Alloc 0 1 false ∷ Free 0 1 ∷ [])
unfolding everything
kernel_blocks = refl

-- frame 2 is in use before the undo and after it, but its block was in another zone meanwhile: what was
-- there comes back first
zone_undone : written ((0, Map 0 0) ∷ (0, Begin off_1) ∷ (0, Drain 0) ∷ (0, Migrate 2) ∷ (0, Commit 2)
    ∷ (0, Online 1 NormalZone) ∷ (0, KernelAlloc 1) ∷ (0, UndoAfter 1) ∷ [])
    ≡ (Alloc 2 0 true ∷ OfflineBegins 1 ∷ Move 2 0 ∷ OfflineEnds 1 true
    ∷ OnlineBegins 1 NormalZone ∷ OnlineEnds 1 true ∷ Alloc 2 1 false
    ∷ Free 0 0 ∷ Free 2 1 ∷ OfflineBegins 1 ∷ OfflineEnds 1 true
    ∷ OnlineBegins 1 MovableZone ∷ OnlineEnds 1 true ∷ Alloc 2 0 true ∷ [])
unfolding everything
zone_undone = refl
