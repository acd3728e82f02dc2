-- One step of the machine: the state after an event, and the reply.
use Rattle.std.specs.Prelude.{zero, suc, ◌/◌, Option, Some, None}
use Rattle.std.specs.Option.{option_map_or}
use Rattle.hp_units.specs.Numbers.{Frame, Order, Block, Cpu, Owner, Page, Serial}
use Rattle.hp_units.specs.Names.{NormalZone, MovableZone, AbsentState, Auto, OfflineAuto, OnlineAuto, KernelAuto, MovableAuto, Event, KernelAlloc, KernelFree, Map, Unmap, Write, Read, Drain, Online, Begin, DrainFor, Migrate, Commit, Cancel, UndoAfter, Probe, Remove, SetAuto, Refusal, Reply, Done, GivesFrame, Word, Moved, Opened, Released, Refused}
use Rattle.hp_units.specs.LayoutParts.{LayoutParts}
use Rattle.hp_units.specs.Arithmetic.{block_bytes}
use Rattle.hp_units.specs.Memory.{FreeFrames, Pages, Memory, kernel_order, with_kernel_order, offline_row}
use Rattle.hp_units.specs.FreeAreas.{give_block}
use Rattle.hp_units.specs.ProcessorLists.{put_one, drain_lists, page_frame}
use Rattle.hp_units.specs.Pages.{frame_at, fresh_words, map_page, unmap_page, write_word, read_word, move_page}
use Rattle.hp_units.specs.Rows.{zone_of, with_areas, with_block_row, online_block, begin_plan, commit_blocks, release_blocks}
use Rattle.hp_units.specs.KernelBlocks.{kernel_block}
use Rattle.hp_units.specs.Migrations.{migration_source, migration_target}
use Rattle.hp_units.specs.Refusals.{refusal_of}

-- the state after an event, and the reply to it
pub record Answered : Type 0 where
  pub memory : Memory
  pub reply : Reply

abbrev pub done : Memory → Answered
done s = record { memory = s; reply = Done }

abbrev pub with_free : Memory → FreeFrames → Memory
with_free s free = record s { free = free }

abbrev pub with_pages : Memory → Pages → Memory
with_pages s pages = record s { pages = pages }

-- the kernel takes a block (Gorman, chapter 6)
unfoldable pub kernel_takes : LayoutParts → Memory → (cpu : Cpu) (order : Order) → Answered
kernel_takes l s cpu order =
    option_map_or (λ handed. record {
      memory = with_kernel_order (with_free s handed.free) handed.frame
          (Some order);
      reply = GivesFrame handed.frame;
    })
    (kernel_block l s.free cpu order) (done s)

-- a block comes back: a single frame by way of the processor's list unless its pageblock is
-- isolated, any other straight to the areas (Gorman, chapter 6)
abbrev pub give_back : LayoutParts → Memory → (cpu : Cpu) (frame : Frame) (order : Order) → Memory
give_back l s cpu frame zero = with_free s (put_one l s.free cpu (zone_of l s frame) frame)
give_back l s cpu frame (suc below) =
    with_areas s (give_block l s.free.areas (zone_of l s frame) frame (suc below))

unfoldable pub kernel_gives : LayoutParts → Memory → (cpu : Cpu) (frame : Frame) → Answered
kernel_gives l s cpu frame =
    option_map_or (λ order. done (give_back l (with_kernel_order s frame None) cpu frame order))
    (kernel_order s frame) (done s)

-- a page gets a frame and is filled with zeros; a page is unmapped, and its frame comes back
unfoldable pub map_step : LayoutParts → Memory → (cpu : Cpu) (owner : Owner) (page : Page) → Answered
map_step l s cpu owner page =
    option_map_or (λ handed.
    done (with_pages (with_free s handed.free) (map_page s.pages owner page handed.frame (fresh_words l))))
    (page_frame l s.free cpu) (done s)

unfoldable pub unmap_step : LayoutParts → Memory → (cpu : Cpu) (owner : Owner) (page : Page) → Answered
unmap_step l s cpu owner page =
    option_map_or (λ frame. done (give_back l (with_pages s (unmap_page s.pages owner page)) cpu frame 0))
    (frame_at s.pages owner page) (done s)

-- the page at the lowest mapped frame of the blocks that the operation is taking offline moves to a
-- frame straight from the areas. Its old frame goes straight back to them (Linux, memory hotplug:
-- migration)
unfoldable pub migrate_step : LayoutParts → Memory → Serial → Answered
migrate_step l s op =
    option_map_or (λ from. option_map_or (λ taken. record {
      memory =
          with_areas (with_pages s (move_page s.pages from taken.frame))
          (give_block l taken.areas (zone_of l s from) from 0);
      reply = Moved from taken.frame;
    })
    (migration_target l s.free.areas) (done s)) (migration_source l s op) (done s)

-- an added block goes online if the machine is set so (Linux, memory hotplug: auto_online_blocks)
abbrev pub auto_online : LayoutParts → Auto → Memory → Block → Memory
auto_online l OfflineAuto s block = s
auto_online l OnlineAuto s block = online_block l NormalZone s block
auto_online l KernelAuto s block = online_block l NormalZone s block
auto_online l MovableAuto s block = online_block l MovableZone s block

-- what an event that is not refused does
abbrev pub perform : LayoutParts → Memory → (serial : Serial) (cpu : Cpu) → Event → Answered
perform l s serial cpu (KernelAlloc order) = kernel_takes l s cpu order
perform l s serial cpu (KernelFree frame) = kernel_gives l s cpu frame
perform l s serial cpu (Map owner page) = map_step l s cpu owner page
perform l s serial cpu (Unmap owner page) = unmap_step l s cpu owner page
perform l s serial cpu (Write owner page index value) =
    done (with_pages s (write_word s.pages owner page index value))
perform l s serial cpu (Read owner page index) =
    record { memory = s; reply = Word (read_word s.pages owner page index) }
perform l s serial cpu (Drain drained) = done (with_free s (drain_lists l s.free drained))
perform l s serial cpu (Online block zone) = done (online_block l zone s block)
perform l s serial cpu (Begin plan) = record { memory = begin_plan l s serial plan; reply = Opened serial }
perform l s serial cpu (DrainFor op drained) = done (with_free s (drain_lists l s.free drained))
perform l s serial cpu (Migrate op) = migrate_step l s op
perform l s serial cpu (Commit op) = done (commit_blocks l s op)
perform l s serial cpu (Cancel op) = record { memory = release_blocks l s op; reply = Released }
perform l s serial cpu (UndoAfter after) = done s
perform l s serial cpu (Probe address) =
    done (auto_online l s.blocks.auto (with_block_row s (address / block_bytes l) offline_row)
    (address / block_bytes l))
perform l s serial cpu (Remove block) =
    done (with_block_row s block (record offline_row { state = AbsentState }))
perform l s serial cpu (SetAuto auto) = done (record s { blocks = record s.blocks { auto = auto } })

-- a refused event leaves the state as it is
abbrev pub answer : LayoutParts → Memory → (serial : Serial) (cpu : Cpu) → Event → Option Refusal → Answered
answer l s serial cpu event (Some refusal) = record { memory = s; reply = Refused refusal }
answer l s serial cpu event None = perform l s serial cpu event

-- one step. UndoAfter does nothing here, and a Cancel here only releases; History has the rest
unfoldable pub step : LayoutParts → Memory → (serial : Serial) (cpu : Cpu) → Event → Answered
step l s serial cpu event = answer l s serial cpu event (refusal_of l s cpu event)
