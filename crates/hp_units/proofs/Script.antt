-- Short scripts of calls, and short sketches of states, for worked examples.
use Rattle.std.specs.Prelude.{ℕ, zero, suc, ◌+◌, ◌==◌, length, List, [], ◌∷◌, ◌++◌, Option, Some, None, map, fold, Bool, true}
use Rattle.hp_units.specs.Names.{Class, Pool, Unmovable, Zone, OnlineState, GoingState, AbsentState, OffWish, Auto, Row, Record, Receipt, Item, Event, Begin, Reply}
use Rattle.std.specs.List.{list_all}
use Rattle.hp_units.specs.LayoutParts.{LayoutParts}
use Rattle.hp_units.specs.Arithmetic.{all_frames}
use Rattle.hp_units.specs.Placement.{places_of}
use Rattle.hp_units.specs.Driver.{next_event}
use Rattle.hp_units.specs.Receipts.{receipt_of}
use Rattle.hp_units.specs.Memory.{Memory, with_free_list, with_cached_list, with_kind, kind_of, with_kernel_order}
use Rattle.hp_units.specs.Pages.{map_page}
use Rattle.hp_units.specs.Rows.{with_areas, with_block_row}
use Rattle.hp_units.specs.Boot.{boot_memory}
use Rattle.hp_units.specs.FreeAreas.{take_block, give_block, steal_block}
use Rattle.hp_units.specs.ProcessorLists.{take_frames, take_one, put_one, drain_lists}
use Rattle.hp_units.specs.Isolation.{move_pageblock}
use Rattle.hp_units.specs.Rows.{online_block, begin_plan, commit_blocks, release_blocks}
use Rattle.hp_units.specs.Refusals.{refusal_of}
use Rattle.hp_units.specs.Step.{kernel_takes, kernel_gives, map_step, unmap_step, migrate_step, step}
use Rattle.hp_units.specs.Marks.{sole_at}
use Rattle.hp_units.specs.History.{steps_until, count_above, net_with, net_of, run, value_of, reply_of}

-- the serial after the earlier records
abbrev pub next_serial : (before : ℕ) → List Record → ℕ
next_serial before earlier = before + length earlier + 1

-- a plan: memory block 2 goes offline
abbrev pub off_2 : List Item
off_2 = record { block = 2; wish = OffWish } ∷ []

-- opens every definition
unfoldable pub everything : Unit {0}
unfolding take_block give_block steal_block take_frames take_one put_one drain_lists move_pageblock
    online_block begin_plan commit_blocks release_blocks refusal_of kernel_takes kernel_gives map_step
    unmap_step migrate_step step sole_at steps_until count_above net_with net_of run value_of reply_of
    boot_memory
everything = tt

-- the history that calls lead to, after the earlier records
abbrev pub played : LayoutParts → Memory → ℕ → List Record → List (ℕ × Event) → List Record
played l base before earlier [] = earlier
played l base before earlier (call ∷ calls) =
    played l base before (earlier ++ record {
      serial = next_serial before earlier;
      cpu = call.0;
      event = call.1;
      reply = reply_of l base before earlier call.0 call.1;
    } ∷ []) calls

abbrev pub replies_of : List Record → List Reply
replies_of history = map (λ r. r.reply) history

-- a state, part by part
abbrev pub on : Class → ℕ → List ℕ → Memory → Memory
on class order frames s = with_areas s (with_free_list s.free.areas class order frames)

abbrev pub cached : ℕ → Pool → List ℕ → Memory → Memory
cached cpu pool frames s = record s { free = with_cached_list s.free cpu pool frames }

abbrev pub unmovable : ℕ → Memory → Memory
unmovable pageblock s =
    with_areas s
    (with_kind s.free.areas pageblock (record (kind_of s.free.areas pageblock) { mobility = Unmovable }))

abbrev pub isolated : ℕ → Memory → Memory
isolated pageblock s =
    with_areas s
    (with_kind s.free.areas pageblock (record (kind_of s.free.areas pageblock) { isolated = true }))

abbrev pub kernel : ℕ → ℕ → Memory → Memory
kernel frame order s = with_kernel_order s frame (Some order)

abbrev pub page : ℕ → ℕ → ℕ → List ℕ → Memory → Memory
page owner number frame words s = record s { pages = map_page s.pages owner number frame words }

abbrev pub block_row : ℕ → Row → Memory → Memory
block_row block r s = with_block_row s block r

abbrev pub auto : Auto → Memory → Memory
auto mode s = record s { blocks = record s.blocks { auto = mode } }

abbrev pub sketch : Memory → List (Memory → Memory) → Memory
sketch s parts = fold (λ t part. part t) s parts

-- rows of blocks
abbrev pub online : Zone → Row
online zone = record { state = OnlineState; zone = Some zone; claim = None }

abbrev pub going : Zone → ℕ → Row
going zone op =
    record { state = GoingState; zone = Some zone; claim = Some (record { op = op; wish = OffWish }) }

abbrev pub absent : Row
absent = record { state = AbsentState; zone = None; claim = None }

-- the state and the replies that calls on a machine of a layout lead to, from its boot on
abbrev pub value_on : LayoutParts → List (ℕ × Event) → Memory
value_on l calls = let base = boot_memory l in value_of l base (played l base 0 [] calls)

abbrev pub replies_on : LayoutParts → List (ℕ × Event) → List Reply
replies_on l calls = replies_of (played l (boot_memory l) 0 [] calls)

-- the same after a seal: the calls after it start from the state that the first calls lead to
abbrev pub sealed_history : LayoutParts → List (ℕ × Event) → List (ℕ × Event) → List Record
sealed_history l first calls = played l (value_on l first) (length first) [] calls

abbrev pub sealed_value : LayoutParts → List (ℕ × Event) → List (ℕ × Event) → Memory
sealed_value l first calls = let base = value_on l first in value_of l base (sealed_history l first calls)

abbrev pub sealed_replies : LayoutParts → List (ℕ × Event) → List (ℕ × Event) → List Reply
sealed_replies l first calls = replies_of (sealed_history l first calls)

-- a history after a driver's run of a plan, and the receipts of the run: each event is the driver's
-- next one
abbrev pub driven_on : (fuel : ℕ) → LayoutParts → Memory → (cpu turns : ℕ) → List Item → List Record
    → List Receipt → Option Event → List Record × List Receipt
driven_on zero l base cpu turns plan earlier receipts next = (earlier, receipts)
driven_on (suc fuel) l base cpu turns plan earlier receipts None = (earlier, receipts)
driven_on (suc fuel) l base cpu turns plan earlier receipts (Some event) =
    let r : Record =
    record {
      serial = next_serial 0 earlier;
      cpu = cpu;
      event = event;
      reply = reply_of l base 0 earlier cpu event;
    } in
    let more = receipts ++ receipt_of r ∷ [] in
    driven_on fuel l base cpu turns plan (earlier ++ r ∷ []) more (next_event l.cpus turns plan more)

abbrev pub driven : LayoutParts → Memory → (cpu turns : ℕ) → List Item → List Record
    → List Record × List Receipt
driven l base cpu turns plan earlier = driven_on 50 l base cpu turns plan earlier [] (Some (Begin plan))

-- each frame is in one place
abbrev pub is_placed : LayoutParts → Memory → Bool
is_placed l s = list_all (λ frame. places_of l s frame == 1) (all_frames l)
