-- Worked cases of memory blocks: operations, blocks that go online, offline and absent, and seals.
use Rattle.std.proofs.Common.{◌≡◌, [], ◌∷◌, refl}
use Rattle.hp_units.specs.Names.{BadAddress, Begin, Busy, Cancel, Commit, Done, DrainFor, GivesFrame, Gone, HoldsUnmovable, IsoM, KernelAlloc, KernelFree, Map, Migrate, Mm, MmPool, MovableAuto, MovableWish, MovableZone, Moved, Nm, NoBlock, NoOp, NormalWish, NormalZone, NotAbsent, NotFree, NotOffline, NotOnline, NothingToMove, Nu, OffWish, Online, Opened, Probe, Refused, Released, Remove, Restored, SetAuto, UndoAfter, Undone, Write}
use Rattle.hp_units.specs.Memory.{offline_row}
use Rattle.hp_units.specs.Boot.{empty_memory}
use Rattle.hp_units.proofs.Script.{everything, value_on, replies_on, sealed_value, sealed_replies, sketch, online, going, absent, on, cached, unmovable, isolated, kernel, page, block_row, auto}
use Rattle.hp_units.proofs.Worked.{small, sparse}

pub block_going_replies : replies_on small ((0, Map 0 0)
    ∷ (0, Begin (record { block = 2; wish = OffWish } ∷ []))
    ∷ (0, Begin (record { block = 2; wish = OffWish } ∷ [])) ∷ [])
    ≡ (Done ∷ Opened 2 ∷ Refused (Busy 2) ∷ [])
unfolding everything
block_going_replies = refl

pub block_going : value_on small ((0, Map 0 0) ∷ (0, Begin (record { block = 2; wish = OffWish } ∷ []))
    ∷ (0, Begin (record { block = 2; wish = OffWish } ∷ [])) ∷ [])
    ≡ sketch (empty_memory small) (block_row 0 (online NormalZone) ∷ block_row 1 (online NormalZone)
    ∷ block_row 2 (online MovableZone) ∷ block_row 2 (going MovableZone 2) ∷ isolated 2
    ∷ on Nm 2 (0 ∷ 4 ∷ []) ∷ on IsoM 1 (10 ∷ []) ∷ cached 0 MmPool (9 ∷ []) ∷ page 0 0 8 (0 ∷ 0 ∷ []) ∷ [])
unfolding everything
block_going = refl

pub offline_done_replies : replies_on small ((0, Map 0 0)
    ∷ (0, Begin (record { block = 2; wish = OffWish } ∷ [])) ∷ (0, Commit 2) ∷ (0, Migrate 2) ∷ (0, Commit 2)
    ∷ (0, DrainFor 2 0) ∷ (0, DrainFor 2 1) ∷ (0, Commit 2) ∷ [])
    ≡ (Done ∷ Opened 2 ∷ Refused (NotFree 8) ∷ Moved 8 0 ∷ Refused (NotFree 9) ∷ Done ∷ Done ∷ Done ∷ [])
unfolding everything
offline_done_replies = refl

pub offline_done : value_on small ((0, Map 0 0) ∷ (0, Begin (record { block = 2; wish = OffWish } ∷ [])) ∷ (
  0,
  Commit 2,
) ∷ (0, Migrate 2) ∷ (0, Commit 2) ∷ (0, DrainFor 2 0) ∷ (0, DrainFor 2 1) ∷ (0, Commit 2) ∷ [])
    ≡ sketch (empty_memory small) (block_row 0 (online NormalZone) ∷ block_row 1 (online NormalZone)
    ∷ block_row 2 (online MovableZone) ∷ block_row 2 (offline_row) ∷ on Nm 0 (1 ∷ []) ∷ on Nm 1 (2 ∷ [])
    ∷ on Nm 2 (4 ∷ []) ∷ page 0 0 0 (0 ∷ 0 ∷ []) ∷ [])
unfolding everything
offline_done = refl

pub offline_ready_replies : replies_on small ((0, Map 0 0)
    ∷ (0, Begin (record { block = 2; wish = OffWish } ∷ [])) ∷ (0, Commit 2) ∷ (0, Migrate 2) ∷ (0, Commit 2)
    ∷ (0, DrainFor 2 0) ∷ (0, DrainFor 2 1) ∷ [])
    ≡ (Done ∷ Opened 2 ∷ Refused (NotFree 8) ∷ Moved 8 0 ∷ Refused (NotFree 9) ∷ Done ∷ Done ∷ [])
unfolding everything
offline_ready_replies = refl

pub offline_ready : value_on small ((0, Map 0 0) ∷ (0, Begin (record { block = 2; wish = OffWish } ∷ []))
    ∷ (0, Commit 2) ∷ (0, Migrate 2) ∷ (0, Commit 2) ∷ (0, DrainFor 2 0) ∷ (0, DrainFor 2 1) ∷ [])
    ≡ sketch (empty_memory small) (block_row 0 (online NormalZone) ∷ block_row 1 (online NormalZone)
    ∷ block_row 2 (online MovableZone) ∷ block_row 2 (going MovableZone 2) ∷ isolated 2 ∷ on Nm 0 (1 ∷ [])
    ∷ on Nm 1 (2 ∷ []) ∷ on Nm 2 (4 ∷ []) ∷ on IsoM 2 (8 ∷ []) ∷ page 0 0 0 (0 ∷ 0 ∷ []) ∷ [])
unfolding everything
offline_ready = refl

pub offline_restored_replies : replies_on small ((0, Map 0 0)
    ∷ (0, Begin (record { block = 2; wish = OffWish } ∷ [])) ∷ (0, Commit 2) ∷ (0, Migrate 2) ∷ (0, Commit 2)
    ∷ (0, DrainFor 2 0) ∷ (0, DrainFor 2 1) ∷ (0, Cancel 2) ∷ [])
    ≡ (Done ∷ Opened 2 ∷ Refused (NotFree 8) ∷ Moved 8 0 ∷ Refused (NotFree 9) ∷ Done ∷ Done ∷ Restored ∷ [])
unfolding everything
offline_restored_replies = refl

pub offline_restored : value_on small ((0, Map 0 0) ∷ (0, Begin (record { block = 2; wish = OffWish } ∷ []))
    ∷ (0, Commit 2) ∷ (0, Migrate 2) ∷ (0, Commit 2) ∷ (0, DrainFor 2 0) ∷ (0, DrainFor 2 1) ∷ (0, Cancel 2)
    ∷ [])
    ≡ sketch (empty_memory small) (block_row 0 (online NormalZone) ∷ block_row 1 (online NormalZone)
    ∷ block_row 2 (online MovableZone) ∷ on Nm 2 (0 ∷ 4 ∷ []) ∷ on Mm 1 (10 ∷ []) ∷ cached 0 MmPool (9 ∷ [])
    ∷ page 0 0 8 (0 ∷ 0 ∷ []) ∷ [])
unfolding everything
offline_restored = refl

pub offline_released_replies : replies_on small ((0, Map 0 0)
    ∷ (0, Begin (record { block = 2; wish = OffWish } ∷ [])) ∷ (0, Commit 2) ∷ (0, Migrate 2) ∷ (0, Commit 2)
    ∷ (0, DrainFor 2 0) ∷ (0, DrainFor 2 1) ∷ (1, Write 0 0 1 5) ∷ (0, Cancel 2) ∷ [])
    ≡ (Done ∷ Opened 2 ∷ Refused (NotFree 8) ∷ Moved 8 0 ∷ Refused (NotFree 9) ∷ Done ∷ Done ∷ Done ∷ Released
    ∷ [])
unfolding everything
offline_released_replies = refl

pub offline_released : value_on small ((0, Map 0 0) ∷ (0, Begin (record { block = 2; wish = OffWish } ∷ []))
    ∷ (0, Commit 2) ∷ (0, Migrate 2) ∷ (0, Commit 2) ∷ (0, DrainFor 2 0) ∷ (0, DrainFor 2 1)
    ∷ (1, Write 0 0 1 5) ∷ (0, Cancel 2) ∷ [])
    ≡ sketch (empty_memory small) (block_row 0 (online NormalZone) ∷ block_row 1 (online NormalZone)
    ∷ block_row 2 (online MovableZone) ∷ on Nm 0 (1 ∷ []) ∷ on Nm 1 (2 ∷ []) ∷ on Nm 2 (4 ∷ [])
    ∷ on Mm 2 (8 ∷ []) ∷ page 0 0 0 (0 ∷ 5 ∷ []) ∷ [])
unfolding everything
offline_released = refl

pub plan_of_three_replies : replies_on small ((0, Map 0 0)
    ∷ (
      0,
      Begin (record { block = 0; wish = OffWish } ∷ record { block = 2; wish = OffWish }
          ∷ record { block = 3; wish = MovableWish } ∷ []),
    )
    ∷ (0, Commit 2) ∷ (0, Migrate 2) ∷ (0, Commit 2) ∷ (0, DrainFor 2 0) ∷ (0, Commit 2) ∷ [])
    ≡ (Done ∷ Opened 2 ∷ Refused (NotFree 8) ∷ Moved 8 4 ∷ Refused (NotFree 9) ∷ Done ∷ Done ∷ [])
unfolding everything
plan_of_three_replies = refl

pub plan_of_three : value_on small ((0, Map 0 0)
    ∷ (
      0,
      Begin (record { block = 0; wish = OffWish } ∷ record { block = 2; wish = OffWish }
          ∷ record { block = 3; wish = MovableWish } ∷ []),
    )
    ∷ (0, Commit 2) ∷ (0, Migrate 2) ∷ (0, Commit 2) ∷ (0, DrainFor 2 0) ∷ (0, Commit 2) ∷ [])
    ≡ sketch (empty_memory small) (block_row 0 (online NormalZone) ∷ block_row 1 (online NormalZone)
    ∷ block_row 2 (online MovableZone) ∷ block_row 0 (offline_row) ∷ block_row 2 (offline_row)
    ∷ block_row 3 (online MovableZone) ∷ on Nm 0 (5 ∷ []) ∷ on Nm 1 (6 ∷ []) ∷ on Mm 2 (12 ∷ [])
    ∷ page 0 0 4 (0 ∷ 0 ∷ []) ∷ [])
unfolding everything
plan_of_three = refl

pub kernel_block_stays_replies : replies_on small
    ((0, KernelAlloc 1) ∷ (
      0,
      Begin (record { block = 0; wish = OffWish }
          ∷ record { block = 2; wish = OffWish } ∷ record { block = 3; wish = MovableWish } ∷ []),
    ) ∷ [])
    ≡ (GivesFrame 0 ∷ Refused (HoldsUnmovable 0) ∷ [])
unfolding everything
kernel_block_stays_replies = refl

pub kernel_block_stays : value_on small
    ((0, KernelAlloc 1) ∷ (
      0,
      Begin (record { block = 0; wish = OffWish }
          ∷ record { block = 2; wish = OffWish } ∷ record { block = 3; wish = MovableWish } ∷ []),
    ) ∷ [])
    ≡ sketch (empty_memory small) (block_row 0 (online NormalZone) ∷ block_row 1 (online NormalZone)
    ∷ block_row 2 (online MovableZone) ∷ unmovable 0 ∷ on Nu 1 (2 ∷ []) ∷ on Nm 2 (4 ∷ [])
    ∷ on Mm 2 (8 ∷ []) ∷ kernel 0 1 ∷ [])
unfolding everything
kernel_block_stays = refl

pub operation_undone_replies : replies_on small ((0, Map 0 0)
    ∷ (0, Begin (record { block = 2; wish = OffWish } ∷ [])) ∷ (1, UndoAfter 1)
    ∷ (1, Begin (record { block = 2; wish = OffWish } ∷ [])) ∷ (0, Migrate 2) ∷ [])
    ≡ (Done ∷ Opened 2 ∷ Undone 1 ∷ Opened 4 ∷ Refused NoOp ∷ [])
unfolding everything
operation_undone_replies = refl

pub operation_undone : value_on small ((0, Map 0 0) ∷ (0, Begin (record { block = 2; wish = OffWish } ∷ []))
    ∷ (1, UndoAfter 1) ∷ (1, Begin (record { block = 2; wish = OffWish } ∷ [])) ∷ (0, Migrate 2) ∷ [])
    ≡ sketch (empty_memory small) (block_row 0 (online NormalZone) ∷ block_row 1 (online NormalZone)
    ∷ block_row 2 (online MovableZone) ∷ block_row 2 (going MovableZone 4) ∷ isolated 2
    ∷ on Nm 2 (0 ∷ 4 ∷ []) ∷ on IsoM 1 (10 ∷ []) ∷ cached 0 MmPool (9 ∷ []) ∷ page 0 0 8 (0 ∷ 0 ∷ []) ∷ [])
unfolding everything
operation_undone = refl

pub online_calls_replies : replies_on small ((0, Online 3 NormalZone) ∷ (0, Online 3 MovableZone)
    ∷ (0, KernelAlloc 2) ∷ (0, KernelAlloc 2) ∷ (0, KernelAlloc 2) ∷ (0, UndoAfter 3) ∷ [])
    ≡ (Done ∷ Refused (NotOffline 3) ∷ GivesFrame 0 ∷ GivesFrame 4 ∷ GivesFrame 12 ∷ Undone 2 ∷ [])
unfolding everything
online_calls_replies = refl

pub online_calls : value_on small ((0, Online 3 NormalZone) ∷ (0, Online 3 MovableZone) ∷ (0, KernelAlloc 2)
    ∷ (0, KernelAlloc 2) ∷ (0, KernelAlloc 2) ∷ (0, UndoAfter 3) ∷ [])
    ≡ sketch (empty_memory small) (block_row 0 (online NormalZone) ∷ block_row 1 (online NormalZone)
    ∷ block_row 2 (online MovableZone) ∷ block_row 3 (online NormalZone) ∷ unmovable 0
    ∷ on Nm 2 (4 ∷ 12 ∷ []) ∷ on Mm 2 (8 ∷ []) ∷ kernel 0 2 ∷ [])
unfolding everything
online_calls = refl

pub coming_block_replies : replies_on small ((0, Begin (record { block = 3; wish = MovableWish } ∷ [])) ∷ (
  0,
  Online 3 NormalZone,
) ∷ (0, Begin (record { block = 3; wish = NormalWish } ∷ [])) ∷ (0, Commit 1) ∷ [])
    ≡ (Opened 1 ∷ Refused (Busy 3) ∷ Refused (Busy 3) ∷ Done ∷ [])
unfolding everything
coming_block_replies = refl

pub coming_block : value_on small ((0, Begin (record { block = 3; wish = MovableWish } ∷ [])) ∷ (
  0,
  Online 3 NormalZone,
) ∷ (0, Begin (record { block = 3; wish = NormalWish } ∷ [])) ∷ (0, Commit 1) ∷ [])
    ≡ sketch (empty_memory small) (block_row 0 (online NormalZone) ∷ block_row 1 (online NormalZone)
    ∷ block_row 2 (online MovableZone) ∷ block_row 3 (online MovableZone) ∷ on Nm 2 (0 ∷ 4 ∷ [])
    ∷ on Mm 2 (8 ∷ 12 ∷ []) ∷ [])
unfolding everything
coming_block = refl

pub released_coming_replies : replies_on small ((0, Begin (record { block = 3; wish = MovableWish } ∷ []))
    ∷ (0, Migrate 1) ∷ (1, Map 0 0) ∷ (0, Cancel 1) ∷ [])
    ≡ (Opened 1 ∷ Refused NothingToMove ∷ Done ∷ Released ∷ [])
unfolding everything
released_coming_replies = refl

pub released_coming : value_on small ((0, Begin (record { block = 3; wish = MovableWish } ∷ []))
    ∷ (0, Migrate 1) ∷ (1, Map 0 0) ∷ (0, Cancel 1) ∷ [])
    ≡ sketch (empty_memory small) (block_row 0 (online NormalZone) ∷ block_row 1 (online NormalZone)
    ∷ block_row 2 (online MovableZone) ∷ on Nm 2 (0 ∷ 4 ∷ []) ∷ on Mm 1 (10 ∷ []) ∷ cached 1 MmPool (9 ∷ [])
    ∷ page 0 0 8 (0 ∷ 0 ∷ []) ∷ [])
unfolding everything
released_coming = refl

pub undo_inside_replies : replies_on small ((0, Map 0 0)
    ∷ (0, Begin (record { block = 2; wish = OffWish } ∷ [])) ∷ (0, DrainFor 2 0) ∷ (0, Migrate 2)
    ∷ (1, UndoAfter 2) ∷ (0, Migrate 2) ∷ (0, Commit 2) ∷ (0, Cancel 2) ∷ [])
    ≡ (Done ∷ Opened 2 ∷ Done ∷ Moved 8 0 ∷ Undone 2 ∷ Moved 8 0 ∷ Refused (NotFree 9) ∷ Restored ∷ [])
unfolding everything
undo_inside_replies = refl

pub undo_inside : value_on small ((0, Map 0 0) ∷ (0, Begin (record { block = 2; wish = OffWish } ∷ [])) ∷ (
  0,
  DrainFor 2 0,
) ∷ (0, Migrate 2) ∷ (1, UndoAfter 2) ∷ (0, Migrate 2) ∷ (0, Commit 2) ∷ (0, Cancel 2) ∷ [])
    ≡ sketch (empty_memory small) (block_row 0 (online NormalZone) ∷ block_row 1 (online NormalZone)
    ∷ block_row 2 (online MovableZone) ∷ on Nm 2 (0 ∷ 4 ∷ []) ∷ on Mm 1 (10 ∷ []) ∷ cached 0 MmPool (9 ∷ [])
    ∷ page 0 0 8 (0 ∷ 0 ∷ []) ∷ [])
unfolding everything
undo_inside = refl

pub undo_commit_replies : replies_on small ((0, Map 0 0)
    ∷ (0, Begin (record { block = 2; wish = OffWish } ∷ [])) ∷ (0, Commit 2) ∷ (0, Migrate 2) ∷ (0, Commit 2)
    ∷ (0, DrainFor 2 0) ∷ (0, DrainFor 2 1) ∷ (0, Commit 2) ∷ (1, UndoAfter 7) ∷ (0, Cancel 2) ∷ [])
    ≡ (Done ∷ Opened 2 ∷ Refused (NotFree 8) ∷ Moved 8 0 ∷ Refused (NotFree 9) ∷ Done ∷ Done ∷ Done ∷ Undone 1
    ∷ Restored ∷ [])
unfolding everything
undo_commit_replies = refl

pub undo_commit : value_on small ((0, Map 0 0) ∷ (0, Begin (record { block = 2; wish = OffWish } ∷ []))
    ∷ (0, Commit 2) ∷ (0, Migrate 2) ∷ (0, Commit 2) ∷ (0, DrainFor 2 0) ∷ (0, DrainFor 2 1) ∷ (0, Commit 2)
    ∷ (1, UndoAfter 7) ∷ (0, Cancel 2) ∷ [])
    ≡ sketch (empty_memory small) (block_row 0 (online NormalZone) ∷ block_row 1 (online NormalZone)
    ∷ block_row 2 (online MovableZone) ∷ on Nm 2 (0 ∷ 4 ∷ []) ∷ on Mm 1 (10 ∷ []) ∷ cached 0 MmPool (9 ∷ [])
    ∷ page 0 0 8 (0 ∷ 0 ∷ []) ∷ [])
unfolding everything
undo_commit = refl

pub absent_block_replies : replies_on sparse ((0, Online 3 NormalZone)
    ∷ (0, Begin (record { block = 3; wish = OffWish } ∷ [])) ∷ (0, Probe 192) ∷ (0, Probe 192)
    ∷ (0, Probe 193) ∷ (0, Probe 256) ∷ (0, Remove 3) ∷ (0, Remove 2) ∷ (0, UndoAfter 3) ∷ [])
    ≡ (Refused (NotOffline 3) ∷ Refused (NotOnline 3) ∷ Done ∷ Refused (NotAbsent 3) ∷ Refused BadAddress
    ∷ Refused NoBlock ∷ Done ∷ Refused (NotOffline 2) ∷ Undone 1 ∷ [])
unfolding everything
absent_block_replies = refl

pub absent_block : value_on sparse ((0, Online 3 NormalZone)
    ∷ (0, Begin (record { block = 3; wish = OffWish } ∷ [])) ∷ (0, Probe 192) ∷ (0, Probe 192)
    ∷ (0, Probe 193) ∷ (0, Probe 256) ∷ (0, Remove 3) ∷ (0, Remove 2) ∷ (0, UndoAfter 3) ∷ [])
    ≡ sketch (empty_memory sparse) (block_row 0 (online NormalZone) ∷ block_row 1 (online NormalZone)
    ∷ block_row 2 (online MovableZone) ∷ block_row 3 (absent) ∷ block_row 3 (offline_row)
    ∷ on Nm 2 (0 ∷ 4 ∷ []) ∷ on Mm 2 (8 ∷ []) ∷ [])
unfolding everything
absent_block = refl

pub auto_online_replies : replies_on sparse ((0, SetAuto MovableAuto) ∷ (0, Probe 192)
    ∷ (0, Begin (record { block = 3; wish = OffWish } ∷ [])) ∷ (0, DrainFor 3 0) ∷ (0, DrainFor 3 1)
    ∷ (0, Migrate 3) ∷ (0, Commit 3) ∷ (0, Remove 3) ∷ [])
    ≡ (Done ∷ Done ∷ Opened 3 ∷ Done ∷ Done ∷ Refused NothingToMove ∷ Done ∷ Done ∷ [])
unfolding everything
auto_online_replies = refl

pub auto_online : value_on sparse ((0, SetAuto MovableAuto) ∷ (0, Probe 192)
    ∷ (0, Begin (record { block = 3; wish = OffWish } ∷ [])) ∷ (0, DrainFor 3 0) ∷ (0, DrainFor 3 1)
    ∷ (0, Migrate 3) ∷ (0, Commit 3) ∷ (0, Remove 3) ∷ [])
    ≡ sketch (empty_memory sparse) (block_row 0 (online NormalZone) ∷ block_row 1 (online NormalZone)
    ∷ block_row 2 (online MovableZone) ∷ block_row 3 (absent) ∷ block_row 3 (absent) ∷ auto MovableAuto
    ∷ on Nm 2 (0 ∷ 4 ∷ []) ∷ on Mm 2 (8 ∷ []) ∷ [])
unfolding everything
auto_online = refl

pub busy_remove_replies : replies_on small
    ((0, Begin (record { block = 3; wish = MovableWish } ∷ [])) ∷ (0, Remove 3) ∷ [])
    ≡ (Opened 1 ∷ Refused (Busy 3) ∷ [])
unfolding everything
busy_remove_replies = refl

pub sealed_undo_replies : sealed_replies small ((0, KernelAlloc 1) ∷ (0, KernelFree 0) ∷ [])
    ((0, UndoAfter 0) ∷ (0, UndoAfter 2) ∷ (0, KernelAlloc 1) ∷ [])
    ≡ (Refused Gone ∷ Undone 0 ∷ GivesFrame 0 ∷ [])
unfolding everything
sealed_undo_replies = refl

pub sealed_undo : sealed_value small ((0, KernelAlloc 1) ∷ (0, KernelFree 0) ∷ [])
    ((0, UndoAfter 0) ∷ (0, UndoAfter 2) ∷ (0, KernelAlloc 1) ∷ [])
    ≡ sketch (empty_memory small) (block_row 0 (online NormalZone) ∷ block_row 1 (online NormalZone)
    ∷ block_row 2 (online MovableZone) ∷ unmovable 0 ∷ on Nu 1 (2 ∷ []) ∷ on Nm 2 (4 ∷ [])
    ∷ on Mm 2 (8 ∷ []) ∷ kernel 0 1 ∷ [])
unfolding everything
sealed_undo = refl

pub sealed_cancel_replies : sealed_replies small ((0, Map 0 0)
    ∷ (0, Begin (record { block = 2; wish = OffWish } ∷ [])) ∷ (0, Commit 2) ∷ (0, Migrate 2) ∷ (0, Commit 2)
    ∷ (0, DrainFor 2 0) ∷ (0, DrainFor 2 1) ∷ []) ((0, Cancel 2) ∷ [])
    ≡ (Released ∷ [])
unfolding everything
sealed_cancel_replies = refl

pub sealed_cancel : sealed_value small ((0, Map 0 0) ∷ (0, Begin (record { block = 2; wish = OffWish } ∷ []))
    ∷ (0, Commit 2) ∷ (0, Migrate 2) ∷ (0, Commit 2) ∷ (0, DrainFor 2 0) ∷ (0, DrainFor 2 1)
    ∷ []) ((0, Cancel 2) ∷ [])
    ≡ sketch (empty_memory small) (block_row 0 (online NormalZone) ∷ block_row 1 (online NormalZone)
    ∷ block_row 2 (online MovableZone) ∷ on Nm 0 (1 ∷ []) ∷ on Nm 1 (2 ∷ []) ∷ on Nm 2 (4 ∷ [])
    ∷ on Mm 2 (8 ∷ []) ∷ page 0 0 0 (0 ∷ 0 ∷ []) ∷ [])
unfolding everything
sealed_cancel = refl

pub sealed_full_replies : sealed_replies small ((0, KernelAlloc 1) ∷ (0, KernelFree 0) ∷ (0, KernelAlloc 3)
    ∷ []) ((0, KernelAlloc 1) ∷ (0, UndoAfter 3) ∷ [])
    ≡ (GivesFrame 0 ∷ Undone 1 ∷ [])
unfolding everything
sealed_full_replies = refl

pub sealed_full : sealed_value small ((0, KernelAlloc 1) ∷ (0, KernelFree 0) ∷ (0, KernelAlloc 3) ∷ [])
    ((0, KernelAlloc 1) ∷ (0, UndoAfter 3) ∷ [])
    ≡ sketch (empty_memory small) (block_row 0 (online NormalZone) ∷ block_row 1 (online NormalZone)
    ∷ block_row 2 (online MovableZone) ∷ unmovable 0 ∷ on Nu 2 (0 ∷ []) ∷ on Nm 2 (4 ∷ [])
    ∷ on Mm 2 (8 ∷ []) ∷ [])
unfolding everything
sealed_full = refl
