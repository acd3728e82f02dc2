-- When an event is refused, and why: the first check that fails, in the event's order of checks.
use Rattle.std.specs.Prelude.{ℕ, ◌+◌, ◌*◌, ◌/◌, ◌%◌, Bool, not, ◌&&◌, List, [], ◌∷◌, Option, Some, None, ◌==◌, nat_lt, nat_le, length, find, map, flat_map, is_some, unwrap_or, if◌then◌else◌}
use Rattle.std.specs.List.{list_any, list_all, range_with_len}
use Rattle.std.specs.Bool.{then_some}
use Rattle.std.specs.Option.{option_map}
use Rattle.hp_units.specs.Numbers.{Frame, Order, Block, Cpu, Owner, Page, Serial}
use Rattle.hp_units.specs.Names.{Item, Event, KernelAlloc, KernelFree, Map, Unmap, Write, Read, Drain, Online, Begin, DrainFor, Migrate, Commit, Cancel, UndoAfter, Probe, Remove, SetAuto, Refusal, NoOwner, NoPage, NoWord, AlreadyMapped, NotMapped, BadOrder, NoFrame, NoSuchFrame, NotKernel, NoCpu, NoBlock, EmptyPlan, Twice, Busy, NotOnline, NotOffline, HoldsUnmovable, NoOp, NothingToMove, NotFree, BadAddress, NotAbsent, Nu, Nm, Mm, IsoN, IsoM}
use Rattle.hp_units.specs.Choices.{first_some, unless_some}
use Rattle.hp_units.specs.LayoutParts.{LayoutParts}
use Rattle.hp_units.specs.Numbers.{ancestor}
use Rattle.hp_units.specs.Arithmetic.{block_bytes, frame_count, frames_of_block, pageblock_size, pageblocks_of}
use Rattle.hp_units.specs.Memory.{FreeAreas, Memory, free_list, isolated_class, kernel_order, row_of}
use Rattle.hp_units.specs.FreeAreas.{is_on}
use Rattle.hp_units.specs.ProcessorLists.{page_frame}
use Rattle.hp_units.specs.KernelBlocks.{kernel_block}
use Rattle.hp_units.specs.Migrations.{migration_source, migration_target}
use Rattle.hp_units.specs.Pages.{frame_at}
use Rattle.hp_units.specs.Rows.{going_blocks, is_absent, is_claimed, is_live, is_off, is_offline, is_online, zone_of_block}

-- ---- the frames of free blocks

-- a free block of this order starts at the frame; the frame is in a free block
abbrev pub is_free_start : FreeAreas → (order : Order) (frame : Frame) → Bool
is_free_start a order frame =
    list_any (λ class. is_on frame (free_list a class order)) (Nu ∷ Nm ∷ Mm ∷ IsoN ∷ IsoM ∷ [])

abbrev pub is_in_free_block : LayoutParts → FreeAreas → Frame → Bool
is_in_free_block l a frame =
    list_any (λ order. is_free_start a order (ancestor frame order)) (range_with_len 0 (l.order + 1))

-- each pageblock of the block is one isolated free block
abbrev pub is_all_free : LayoutParts → Memory → Block → Bool
is_all_free l s block =
    list_all (λ pageblock. is_on (pageblock * pageblock_size l)
    (free_list s.free.areas (isolated_class (zone_of_block s.blocks block)) l.order)) (pageblocks_of l
    block)

-- in the blocks that an operation is taking offline, the lowest frame that is in no free block
abbrev pub frame_in_use : LayoutParts → Memory → Serial → Option Frame
frame_in_use l s op =
    find (λ frame. not (is_in_free_block l s.free.areas frame))
    (flat_map (frames_of_block l) (going_blocks l s.blocks op))

-- ---- the refusals of a plan, each for the first item to which it applies

-- the first block that the plan names again, given those named before
abbrev pub first_repeated : List Block → List Item → Option Block
first_repeated before [] = None
first_repeated before (item ∷ plan) =
    let later = first_repeated (item.block ∷ before) plan in
    if is_on item.block before then Some item.block else later

-- the lowest frame of the item's block at which a kernel block starts; None if the block is not to
-- go offline
abbrev pub kernel_frame_in : LayoutParts → Memory → Item → Option Frame
kernel_frame_in l s item =
    if is_off item.wish then find (λ frame. is_some (kernel_order s frame)) (frames_of_block l item.block)
    else None

abbrev pub plan_refusals : LayoutParts → Memory → List Item → List (Option Refusal)
plan_refusals l s plan =
    then_some (nat_le (length plan) 0) EmptyPlan
    ∷ then_some (list_any (λ item. nat_le l.blocks item.block) plan) NoBlock
    ∷ option_map Twice (first_repeated [] plan)
    ∷ option_map (λ item. Busy item.block) (find (λ item. is_claimed (row_of s.blocks item.block)) plan)
    ∷ option_map (λ item. NotOnline item.block)
    (find (λ item. is_off item.wish && not (is_online (row_of s.blocks item.block))) plan)
    ∷ option_map (λ item. NotOffline item.block)
    (find (λ item. not (is_off item.wish) && not (is_offline (row_of s.blocks item.block))) plan)
    ∷ option_map HoldsUnmovable (first_some (map (kernel_frame_in l s) plan))
    ∷ []

-- ---- the refusals that several events share

-- the refusals for an owner or a page that does not exist, and then the given others
abbrev pub page_refusals : LayoutParts → (owner : Owner) (page : Page) → List (Option Refusal)
    → List (Option Refusal)
page_refusals l owner page others =
    then_some (nat_le l.owners owner) NoOwner ∷ then_some (nat_le l.pages page) NoPage ∷ others

-- the refusals of a Read or a Write of a word
abbrev pub word_refusals : LayoutParts → Memory → (owner : Owner) (page : Page) (index : ℕ)
    → List (Option Refusal)
word_refusals l s owner page index =
    page_refusals l owner page
    (then_some (nat_le l.words index) NoWord ∷ unless_some (frame_at s.pages owner page) NotMapped ∷ [])

-- the refusals for a memory block that is to go online or to be removed: it must be offline, with
-- no claim
abbrev pub offline_refusals : LayoutParts → Memory → Block → List (Option Refusal)
offline_refusals l s block =
    then_some (nat_le l.blocks block) NoBlock ∷ then_some (is_claimed (row_of s.blocks block)) (Busy block)
    ∷ then_some (not (is_offline (row_of s.blocks block))) (NotOffline block) ∷ []

-- ---- the refusals of each event in their order, after that of the caller's processor

abbrev pub event_refusals : LayoutParts → Memory → Cpu → Event → List (Option Refusal)
event_refusals l s cpu (KernelAlloc order) =
    then_some (nat_lt l.order order) BadOrder ∷ unless_some (kernel_block l s.free cpu order) NoFrame ∷ []
event_refusals l s cpu (KernelFree frame) =
    then_some (nat_le (frame_count l) frame) NoSuchFrame ∷ unless_some (kernel_order s frame) NotKernel ∷ []
event_refusals l s cpu (Map owner page) =
    page_refusals l owner page (then_some (is_some (frame_at s.pages owner page)) AlreadyMapped
    ∷ unless_some (page_frame l s.free cpu) NoFrame ∷ [])
event_refusals l s cpu (Unmap owner page) =
    page_refusals l owner page (unless_some (frame_at s.pages owner page) NotMapped ∷ [])
event_refusals l s cpu (Write owner page index value) = word_refusals l s owner page index
event_refusals l s cpu (Read owner page index) = word_refusals l s owner page index
event_refusals l s cpu (Drain drained) = then_some (nat_le l.cpus drained) NoCpu ∷ []
event_refusals l s cpu (Online block zone) = offline_refusals l s block
event_refusals l s cpu (Begin plan) = plan_refusals l s plan
event_refusals l s cpu (DrainFor op drained) =
    then_some (nat_le l.cpus drained) NoCpu ∷ then_some (not (is_live s.blocks op)) NoOp ∷ []
event_refusals l s cpu (Migrate op) =
    then_some (not (is_live s.blocks op)) NoOp ∷ unless_some (migration_source l s op) NothingToMove
    ∷ unless_some (migration_target l s.free.areas) NoFrame ∷ []
event_refusals l s cpu (Commit op) =
    then_some (not (is_live s.blocks op)) NoOp
    ∷ then_some (not (list_all (is_all_free l s) (going_blocks l s.blocks op)))
    (NotFree (unwrap_or (frame_in_use l s op) 0)) ∷ []
event_refusals l s cpu (Cancel op) = then_some (not (is_live s.blocks op)) NoOp ∷ []
event_refusals l s cpu (UndoAfter serial) = []
event_refusals l s cpu (Probe address) =
    then_some (not (address % block_bytes l == 0)) BadAddress
    ∷ then_some (nat_le l.blocks (address / block_bytes l)) NoBlock
    ∷ then_some (not (is_absent (row_of s.blocks (address / block_bytes l))))
    (NotAbsent (address / block_bytes l)) ∷ []
event_refusals l s cpu (Remove block) = offline_refusals l s block
event_refusals l s cpu (SetAuto auto) = []

-- the refusal of an event, if any: that of the caller's processor, otherwise the first of the
-- event's own
unfoldable pub refusal_of : LayoutParts → Memory → Cpu → Event → Option Refusal
refusal_of l s cpu event = first_some (then_some (nat_le l.cpus cpu) NoCpu ∷ event_refusals l s cpu event)
