-- Worked examples, computed: the replies to calls, and the state after them.
use Rattle.std.proofs.Common.{◌≡◌, [], ◌∷◌, refl}
use Rattle.hp_units.specs.Names.{AbsentBoot, AlreadyMapped, BadOrder, Begin, Cancel, Done, Drain, DrainFor, EmptyPlan, GivesFrame, Gone, KernelAlloc, KernelFree, Map, Migrate, Mm, MmPool, MovableBoot, MovableWish, MovableZone, Moved, Nm, NoBlock, NoCpu, NoFrame, NoOp, NoOwner, NoPage, NoSuchFrame, NoWord, NormalBoot, NormalZone, NotKernel, NotMapped, NotOffline, NotOnline, NothingToMove, Nu, NuPool, OffWish, OfflineBoot, Online, Opened, Read, Refused, Released, Restored, Twice, UndoAfter, Undone, Unmap, Word, Write}
use Rattle.hp_units.specs.LayoutParts.{LayoutParts}
use Rattle.hp_units.specs.Boot.{empty_memory}
use Rattle.hp_units.proofs.Script.{everything, value_on, replies_on, sketch, online, on, cached, unmovable, kernel, page, block_row}

abbrev pub small : LayoutParts
small =
    record {
      order = 2;
      pageblocks = 1;
      blocks = 4;
      cpus = 2;
      batch = 2;
      high = 2;
      owners = 2;
      pages = 8;
      words = 2;
      history = 1000;
      boot = (NormalBoot ∷ NormalBoot ∷ MovableBoot ∷ OfflineBoot ∷ []);
    }

abbrev pub tiny : LayoutParts
tiny =
    record {
      order = 0;
      pageblocks = 1;
      blocks = 1;
      cpus = 1;
      batch = 1;
      high = 1;
      owners = 1;
      pages = 1;
      words = 1;
      history = 100;
      boot = (NormalBoot ∷ []);
    }

abbrev pub wide : LayoutParts
wide =
    record {
      order = 3;
      pageblocks = 1;
      blocks = 4;
      cpus = 2;
      batch = 2;
      high = 2;
      owners = 2;
      pages = 8;
      words = 2;
      history = 1000;
      boot = (NormalBoot ∷ NormalBoot ∷ MovableBoot ∷ OfflineBoot ∷ []);
    }

abbrev pub sparse : LayoutParts
sparse =
    record {
      order = 2;
      pageblocks = 1;
      blocks = 4;
      cpus = 2;
      batch = 2;
      high = 2;
      owners = 2;
      pages = 8;
      words = 2;
      history = 1000;
      boot = (NormalBoot ∷ NormalBoot ∷ MovableBoot ∷ AbsentBoot ∷ []);
    }

pub booted : value_on small []
    ≡ sketch (empty_memory small) (block_row 0 (online NormalZone) ∷ block_row 1 (online NormalZone)
    ∷ block_row 2 (online MovableZone) ∷ on Nm 2 (0 ∷ 4 ∷ []) ∷ on Mm 2 (8 ∷ []) ∷ [])
unfolding everything
booted = refl

pub page_mapped_replies : replies_on small ((0, Map 0 0) ∷ [])
    ≡ (Done ∷ [])
unfolding everything
page_mapped_replies = refl

pub page_mapped : value_on small ((0, Map 0 0) ∷ [])
    ≡ sketch (empty_memory small) (block_row 0 (online NormalZone) ∷ block_row 1 (online NormalZone)
    ∷ block_row 2 (online MovableZone) ∷ on Nm 2 (0 ∷ 4 ∷ []) ∷ on Mm 1 (10 ∷ []) ∷ cached 0 MmPool (9 ∷ [])
    ∷ page 0 0 8 (0 ∷ 0 ∷ []) ∷ [])
unfolding everything
page_mapped = refl

pub block_taken_replies : replies_on small ((0, KernelAlloc 1) ∷ [])
    ≡ (GivesFrame 0 ∷ [])
unfolding everything
block_taken_replies = refl

pub block_taken : value_on small ((0, KernelAlloc 1) ∷ [])
    ≡ sketch (empty_memory small) (block_row 0 (online NormalZone) ∷ block_row 1 (online NormalZone)
    ∷ block_row 2 (online MovableZone) ∷ unmovable 0 ∷ on Nu 1 (2 ∷ []) ∷ on Nm 2 (4 ∷ [])
    ∷ on Mm 2 (8 ∷ []) ∷ kernel 0 1 ∷ [])
unfolding everything
block_taken = refl

pub block_freed_replies : replies_on small ((0, KernelAlloc 1) ∷ (0, KernelFree 0) ∷ [])
    ≡ (GivesFrame 0 ∷ Done ∷ [])
unfolding everything
block_freed_replies = refl

pub block_freed : value_on small ((0, KernelAlloc 1) ∷ (0, KernelFree 0) ∷ [])
    ≡ sketch (empty_memory small) (block_row 0 (online NormalZone) ∷ block_row 1 (online NormalZone)
    ∷ block_row 2 (online MovableZone) ∷ unmovable 0 ∷ on Nu 2 (0 ∷ []) ∷ on Nm 2 (4 ∷ [])
    ∷ on Mm 2 (8 ∷ []) ∷ [])
unfolding everything
block_freed = refl

pub both_undone_replies : replies_on small ((0, KernelAlloc 1) ∷ (0, KernelFree 0) ∷ (0, UndoAfter 0) ∷ [])
    ≡ (GivesFrame 0 ∷ Done ∷ Undone 2 ∷ [])
unfolding everything
both_undone_replies = refl

pub both_undone : value_on small ((0, KernelAlloc 1) ∷ (0, KernelFree 0) ∷ (0, UndoAfter 0) ∷ [])
    ≡ sketch (empty_memory small) (block_row 0 (online NormalZone) ∷ block_row 1 (online NormalZone)
    ∷ block_row 2 (online MovableZone) ∷ on Nm 2 (0 ∷ 4 ∷ []) ∷ on Mm 2 (8 ∷ []) ∷ [])
unfolding everything
both_undone = refl

pub free_undone_replies : replies_on small ((0, KernelAlloc 1) ∷ (0, KernelAlloc 1) ∷ (0, KernelAlloc 1)
    ∷ (0, KernelAlloc 1) ∷ (0, KernelFree 0) ∷ (0, KernelFree 4) ∷ (0, KernelFree 2) ∷ (0, UndoAfter 6) ∷ [])
    ≡ (GivesFrame 0 ∷ GivesFrame 2 ∷ GivesFrame 4 ∷ GivesFrame 6 ∷ Done ∷ Done ∷ Done ∷ Undone 1 ∷ [])
unfolding everything
free_undone_replies = refl

pub free_undone : value_on small ((0, KernelAlloc 1) ∷ (0, KernelAlloc 1) ∷ (0, KernelAlloc 1)
    ∷ (0, KernelAlloc 1) ∷ (0, KernelFree 0) ∷ (0, KernelFree 4) ∷ (0, KernelFree 2) ∷ (0, UndoAfter 6) ∷ [])
    ≡ sketch (empty_memory small) (block_row 0 (online NormalZone) ∷ block_row 1 (online NormalZone)
    ∷ block_row 2 (online MovableZone) ∷ unmovable 0 ∷ unmovable 1 ∷ on Nu 1 (4 ∷ 0 ∷ []) ∷ on Mm 2 (8 ∷ [])
    ∷ kernel 2 1 ∷ kernel 6 1 ∷ [])
unfolding everything
free_undone = refl

pub memory_exhausted_replies : replies_on small
    ((0, KernelAlloc 3) ∷ (0, KernelAlloc 2) ∷ (0, KernelAlloc 2) ∷ (0, KernelAlloc 2) ∷ [])
    ≡ (Refused BadOrder ∷ GivesFrame 0 ∷ GivesFrame 4 ∷ Refused NoFrame ∷ [])
unfolding everything
memory_exhausted_replies = refl

pub memory_exhausted : value_on small
    ((0, KernelAlloc 3) ∷ (0, KernelAlloc 2) ∷ (0, KernelAlloc 2) ∷ (0, KernelAlloc 2) ∷ [])
    ≡ sketch (empty_memory small) (block_row 0 (online NormalZone) ∷ block_row 1 (online NormalZone)
    ∷ block_row 2 (online MovableZone) ∷ unmovable 0 ∷ unmovable 1 ∷ on Mm 2 (8 ∷ []) ∷ kernel 0 2
    ∷ kernel 4 2 ∷ [])
unfolding everything
memory_exhausted = refl

pub one_frame_replies : replies_on tiny ((0, Map 0 0) ∷ (0, Write 0 0 0 18446744073709551615) ∷ (
  0,
  Read 0 0 0,
) ∷ (0, Begin (record { block = 0; wish = OffWish } ∷ [])) ∷ (0, DrainFor 4 0) ∷ (
  0,
  Migrate 4,
) ∷ (0, Cancel 4) ∷ (0, Unmap 0 0) ∷ (0, KernelAlloc 0) ∷ (0, Drain 0) ∷ (0, KernelAlloc 0) ∷ [])
    ≡ (Done ∷ Done ∷ Word 18446744073709551615 ∷ Opened 4 ∷ Done ∷ Refused NoFrame ∷ Restored ∷ Done
    ∷ Refused NoFrame ∷ Done ∷ GivesFrame 0 ∷ [])
unfolding everything
one_frame_replies = refl

pub one_frame : value_on tiny ((0, Map 0 0) ∷ (0, Write 0 0 0 18446744073709551615) ∷ (0, Read 0 0 0)
    ∷ (0, Begin (record { block = 0; wish = OffWish } ∷ [])) ∷ (0, DrainFor 4 0) ∷ (0, Migrate 4)
    ∷ (0, Cancel 4) ∷ (0, Unmap 0 0) ∷ (0, KernelAlloc 0) ∷ (0, Drain 0) ∷ (0, KernelAlloc 0) ∷ [])
    ≡ sketch (empty_memory tiny) (block_row 0 (online NormalZone) ∷ unmovable 0 ∷ kernel 0 0 ∷ [])
unfolding everything
one_frame = refl

pub bad_numbers_replies : replies_on small ((0, Map 0 0) ∷ (0, Map 0 0) ∷ (0, Map 0 8) ∷ (0, Map 1 0)
    ∷ (0, Map 2 0) ∷ (0, Read 0 0 2) ∷ (0, Unmap 0 1) ∷ (0, KernelFree 16) ∷ (0, KernelFree 1) ∷ (0, Drain 2)
    ∷ (2, Drain 0) ∷ (0, Begin []) ∷ (0, Begin (record { block = 4; wish = OffWish } ∷ []))
    ∷ (0, Begin (record { block = 1; wish = OffWish } ∷ record { block = 1; wish = OffWish } ∷ []))
    ∷ (0, Begin (record { block = 3; wish = OffWish } ∷ []))
    ∷ (0, Begin (record { block = 0; wish = MovableWish } ∷ [])) ∷ (0, Online 9 NormalZone) ∷ (0, Migrate 9)
    ∷ (0, UndoAfter 99) ∷ (0, Begin (record { block = 0; wish = OffWish } ∷ [])) ∷ (0, Migrate 20)
    ∷ (0, Cancel 20) ∷ [])
    ≡ (Done ∷ Refused AlreadyMapped ∷ Refused NoPage ∷ Done ∷ Refused NoOwner ∷ Refused NoWord
    ∷ Refused NotMapped ∷ Refused NoSuchFrame ∷ Refused NotKernel ∷ Refused NoCpu ∷ Refused NoCpu
    ∷ Refused EmptyPlan ∷ Refused NoBlock ∷ Refused (Twice 1) ∷ Refused (NotOnline 3)
    ∷ Refused (NotOffline 0) ∷ Refused NoBlock ∷ Refused NoOp ∷ Refused Gone ∷ Opened 20
    ∷ Refused NothingToMove ∷ Restored ∷ [])
unfolding everything
bad_numbers_replies = refl

pub bad_numbers : value_on small ((0, Map 0 0) ∷ (0, Map 0 0) ∷ (0, Map 0 8) ∷ (0, Map 1 0) ∷ (0, Map 2 0)
    ∷ (0, Read 0 0 2) ∷ (0, Unmap 0 1) ∷ (0, KernelFree 16) ∷ (0, KernelFree 1) ∷ (0, Drain 2) ∷ (2, Drain 0)
    ∷ (0, Begin []) ∷ (0, Begin (record { block = 4; wish = OffWish } ∷ []))
    ∷ (0, Begin (record { block = 1; wish = OffWish } ∷ record { block = 1; wish = OffWish } ∷ []))
    ∷ (0, Begin (record { block = 3; wish = OffWish } ∷ []))
    ∷ (0, Begin (record { block = 0; wish = MovableWish } ∷ [])) ∷ (0, Online 9 NormalZone) ∷ (0, Migrate 9)
    ∷ (0, UndoAfter 99) ∷ (0, Begin (record { block = 0; wish = OffWish } ∷ [])) ∷ (0, Migrate 20)
    ∷ (0, Cancel 20) ∷ [])
    ≡ sketch (empty_memory small) (block_row 0 (online NormalZone) ∷ block_row 1 (online NormalZone)
    ∷ block_row 2 (online MovableZone) ∷ on Nm 2 (0 ∷ 4 ∷ []) ∷ on Mm 1 (10 ∷ []) ∷ page 0 0 8 (0 ∷ 0 ∷ [])
    ∷ page 1 0 9 (0 ∷ 0 ∷ []) ∷ [])
unfolding everything
bad_numbers = refl

pub spill_undone_replies : replies_on small ((0, Map 0 0) ∷ (0, Map 0 1) ∷ (0, Map 0 2) ∷ (0, Unmap 0 0)
    ∷ (0, Unmap 0 1) ∷ (0, Unmap 0 2) ∷ (0, Drain 0) ∷ (0, UndoAfter 6) ∷ [])
    ≡ (Done ∷ Done ∷ Done ∷ Done ∷ Done ∷ Done ∷ Done ∷ Undone 1 ∷ [])
unfolding everything
spill_undone_replies = refl

pub spill_undone : value_on small ((0, Map 0 0) ∷ (0, Map 0 1) ∷ (0, Map 0 2) ∷ (0, Unmap 0 0)
    ∷ (0, Unmap 0 1) ∷ (0, Unmap 0 2) ∷ (0, Drain 0) ∷ (0, UndoAfter 6) ∷ [])
    ≡ sketch (empty_memory small) (block_row 0 (online NormalZone) ∷ block_row 1 (online NormalZone)
    ∷ block_row 2 (online MovableZone) ∷ on Nm 2 (0 ∷ 4 ∷ []) ∷ on Mm 0 (8 ∷ 11 ∷ [])
    ∷ cached 0 MmPool (10 ∷ 9 ∷ []) ∷ [])
unfolding everything
spill_undone = refl

pub lists_drained_replies : replies_on small ((0, Map 0 0) ∷ (0, Map 0 1) ∷ (0, Map 0 2) ∷ (0, Unmap 0 0)
    ∷ (0, Unmap 0 1) ∷ (0, Unmap 0 2) ∷ (0, Drain 0) ∷ [])
    ≡ (Done ∷ Done ∷ Done ∷ Done ∷ Done ∷ Done ∷ Done ∷ [])
unfolding everything
lists_drained_replies = refl

pub lists_drained : value_on small ((0, Map 0 0) ∷ (0, Map 0 1) ∷ (0, Map 0 2) ∷ (0, Unmap 0 0)
    ∷ (0, Unmap 0 1) ∷ (0, Unmap 0 2) ∷ (0, Drain 0) ∷ [])
    ≡ sketch (empty_memory small) (block_row 0 (online NormalZone) ∷ block_row 1 (online NormalZone)
    ∷ block_row 2 (online MovableZone) ∷ on Nm 2 (0 ∷ 4 ∷ []) ∷ on Mm 2 (8 ∷ []) ∷ [])
unfolding everything
lists_drained = refl

pub old_words_gone_replies : replies_on small ((0, Map 0 0) ∷ (0, Write 0 0 0 7)
    ∷ (0, Begin (record { block = 2; wish = OffWish } ∷ [])) ∷ (0, Migrate 3) ∷ (1, Drain 1) ∷ (0, Cancel 3)
    ∷ (1, Map 1 0) ∷ (1, Read 1 0 0) ∷ (0, Read 0 0 0) ∷ [])
    ≡ (Done ∷ Done ∷ Opened 3 ∷ Moved 8 0 ∷ Done ∷ Released ∷ Done ∷ Word 0 ∷ Word 7 ∷ [])
unfolding everything
old_words_gone_replies = refl

pub old_words_gone : value_on small ((0, Map 0 0) ∷ (0, Write 0 0 0 7)
    ∷ (0, Begin (record { block = 2; wish = OffWish } ∷ [])) ∷ (0, Migrate 3) ∷ (1, Drain 1) ∷ (0, Cancel 3)
    ∷ (1, Map 1 0) ∷ (1, Read 1 0 0) ∷ (0, Read 0 0 0) ∷ [])
    ≡ sketch (empty_memory small) (block_row 0 (online NormalZone) ∷ block_row 1 (online NormalZone)
    ∷ block_row 2 (online MovableZone) ∷ on Nm 0 (1 ∷ []) ∷ on Nm 1 (2 ∷ []) ∷ on Nm 2 (4 ∷ [])
    ∷ on Mm 0 (11 ∷ []) ∷ cached 0 MmPool (9 ∷ []) ∷ cached 1 MmPool (10 ∷ []) ∷ page 0 0 0 (7 ∷ 0 ∷ [])
    ∷ page 1 0 8 (0 ∷ 0 ∷ []) ∷ [])
unfolding everything
old_words_gone = refl

pub refused_calls_replies : replies_on small
    ((0, KernelFree 16) ∷ (0, KernelFree 1) ∷ (0, UndoAfter 99) ∷ (2, KernelAlloc 1) ∷ (0, UndoAfter 0) ∷ [])
    ≡ (Refused NoSuchFrame ∷ Refused NotKernel ∷ Refused Gone ∷ Refused NoCpu ∷ Undone 0 ∷ [])
unfolding everything
refused_calls_replies = refl

pub refused_calls : value_on small
    ((0, KernelFree 16) ∷ (0, KernelFree 1) ∷ (0, UndoAfter 99) ∷ (2, KernelAlloc 1) ∷ (0, UndoAfter 0) ∷ [])
    ≡ sketch (empty_memory small) (block_row 0 (online NormalZone) ∷ block_row 1 (online NormalZone)
    ∷ block_row 2 (online MovableZone) ∷ on Nm 2 (0 ∷ 4 ∷ []) ∷ on Mm 2 (8 ∷ []) ∷ [])
unfolding everything
refused_calls = refl

pub two_joins_replies : replies_on wide ((0, KernelAlloc 1) ∷ (0, KernelFree 0) ∷ [])
    ≡ (GivesFrame 0 ∷ Done ∷ [])
unfolding everything
two_joins_replies = refl

pub two_joins : value_on wide ((0, KernelAlloc 1) ∷ (0, KernelFree 0) ∷ [])
    ≡ sketch (empty_memory wide) (block_row 0 (online NormalZone) ∷ block_row 1 (online NormalZone)
    ∷ block_row 2 (online MovableZone) ∷ unmovable 0 ∷ on Nu 3 (0 ∷ []) ∷ on Nm 3 (8 ∷ [])
    ∷ on Mm 3 (16 ∷ []) ∷ [])
unfolding everything
two_joins = refl

pub kernel_frames_replies : replies_on small
    ((0, KernelAlloc 0) ∷ (1, KernelAlloc 0) ∷ (0, KernelFree 0) ∷ [])
    ≡ (GivesFrame 0 ∷ GivesFrame 1 ∷ Done ∷ [])
unfolding everything
kernel_frames_replies = refl

pub kernel_frames : value_on small ((0, KernelAlloc 0) ∷ (1, KernelAlloc 0) ∷ (0, KernelFree 0) ∷ [])
    ≡ sketch (empty_memory small) (block_row 0 (online NormalZone) ∷ block_row 1 (online NormalZone)
    ∷ block_row 2 (online MovableZone) ∷ unmovable 0 ∷ on Nu 0 (3 ∷ []) ∷ on Nm 2 (4 ∷ [])
    ∷ on Mm 2 (8 ∷ []) ∷ cached 0 NuPool (0 ∷ []) ∷ cached 1 NuPool (2 ∷ []) ∷ kernel 1 0 ∷ [])
unfolding everything
kernel_frames = refl

pub zeros_again_replies : replies_on small
    ((0, Map 0 0) ∷ (0, Write 0 0 0 7) ∷ (0, Unmap 0 0) ∷ (0, Map 0 1) ∷ (0, Read 0 1 0) ∷ [])
    ≡ (Done ∷ Done ∷ Done ∷ Done ∷ Word 0 ∷ [])
unfolding everything
zeros_again_replies = refl

pub zeros_again : value_on small
    ((0, Map 0 0) ∷ (0, Write 0 0 0 7) ∷ (0, Unmap 0 0) ∷ (0, Map 0 1) ∷ (0, Read 0 1 0) ∷ [])
    ≡ sketch (empty_memory small) (block_row 0 (online NormalZone) ∷ block_row 1 (online NormalZone)
    ∷ block_row 2 (online MovableZone) ∷ on Nm 2 (0 ∷ 4 ∷ []) ∷ on Mm 1 (10 ∷ []) ∷ cached 0 MmPool (9 ∷ [])
    ∷ page 0 1 8 (0 ∷ 0 ∷ []) ∷ [])
unfolding everything
zeros_again = refl
