-- Bad states and bad steps that the laws exclude, computed.
use Rattle.std.proofs.Common.{◌≡◌, ◌≢◌, ℕ, ◌+◌, List, [], ◌∷◌, ◌++◌, length, Bool, true, false, Option, Some, None, refl, sym, ◌∙◌, arith, ◌==◌}
use Rattle.std.specs.List.{list_all}
use Rattle.hp_units.specs.declared.rows.Class.TheVariants.{Nm}
use Rattle.hp_units.specs.declared.rows.Mobility.TheVariants.{Unmovable, Movable}
use Rattle.hp_units.specs.declared.rows.Row.{Row}
use Rattle.hp_units.specs.declared.rows.State.TheVariants.{Offline as OfflineState, Online as OnlineState, Going as GoingState}
use Rattle.hp_units.specs.declared.rows.Wish.TheVariants.{Off as OffWish, Movable as MovableWish}
use Rattle.hp_units.specs.declared.rows.Zone.TheVariants.{Movable as MovableZone}
use Rattle.hp_laws.proofs.Names.{Item, Event, Record, Reply, Begin, Cancel, Commit, Done, DrainFor, GivesFrame, KernelAlloc, Map, Migrate, Moved, NotFree, Opened, Refused, Restored, UndoAfter, Undone, Write}
use Rattle.hp_units.specs.Arithmetic.{all_frames, block_of}
use Rattle.hp_units.specs.Memory.{Memory, entry_of, kind_of, offline_row, row_of, with_free_list, with_kind}
use Rattle.hp_units.specs.Boot.{boot_memory}
use Rattle.hp_units.specs.Contents.{contents_of_net}
use Rattle.hp_units.specs.FreeAreas.{give_block, steal_block, take_block}
use Rattle.hp_units.specs.ProcessorLists.{drain_lists, put_one, take_frames, take_one}
use Rattle.hp_units.specs.Isolation.{move_pageblock}
use Rattle.hp_units.specs.Pages.{frame_at, map_page}
use Rattle.hp_units.specs.Refusals.{refusal_of}
use Rattle.hp_units.specs.Rows.{begin_plan, commit_blocks, is_going, online_block, release_blocks, with_areas, with_block_row}
use Rattle.hp_units.specs.Step.{kernel_gives, kernel_takes, map_step, migrate_step, step, unmap_step}
use Rattle.hp_units.specs.Marks.{sole_at}
use Rattle.hp_units.specs.History.{IsLegal, count_above, net_of, net_with, reply_of, run, steps_until, value_of}
use Rattle.hp_units.specs.Placement.{IsInOrder, IsWellPlaced, is_unplugged, places_of}
use Rattle.hp_laws.specs.Operations.{RowsAre, wished_row}
use Rattle.hp_laws.proofs.LawProofs.{last_follows}
use Rattle.hp_laws.proofs.SmallLayout.{off, small}

-- opens every definition
unfoldable everything : Unit {0}
unfolding take_block give_block steal_block take_frames take_one put_one drain_lists move_pageblock
    online_block begin_plan commit_blocks release_blocks refusal_of kernel_takes kernel_gives map_step
    unmap_step migrate_step step sole_at steps_until count_above net_with net_of run value_of reply_of
    boot_memory
everything = tt

abbrev booted : Memory
booted = boot_memory small

-- the booted machine's free blocks of zone Normal, changed; and a page mapped to a frame
abbrev with_normal : List ℕ → Memory
with_normal frames = with_areas booted (with_free_list booted.free.areas Nm 2 frames)

abbrev with_page : ℕ → Memory
with_page frame = record booted { pages = map_page booted.pages 0 0 frame (0 ∷ 0 ∷ []) }

-- ---- each frame is in one place

abbrev each_once : Memory → Bool
each_once s = list_all (λ frame. places_of small s frame == 1) (all_frames small)

booted_once : each_once booted ≡ true
unfolding everything
booted_once = refl

-- frame 0 left its list and went nowhere: it is lost
lost_frame : places_of small (with_normal (4 ∷ [])) 0 ≡ 0
unfolding everything
lost_frame = refl

lost_excluded : IsWellPlaced small (with_normal (4 ∷ [])) → ⊥
lost_excluded p = absurd (omega (arith, p.once 0, lost_frame))

-- frame 0 is mapped, and still on its list
doubled_frame : places_of small (with_page 0) 0 ≡ 2
unfolding everything
doubled_frame = refl

doubled_excluded : IsWellPlaced small (with_page 0) → ⊥
doubled_excluded p = absurd (omega (arith, p.once 0, doubled_frame))

-- a page is mapped past the last frame, where each number counts as one of an offline block
mapped_past : places_of small (with_page 16) 16 ≡ 2
unfolding everything
mapped_past = refl

past_excluded : IsWellPlaced small (with_page 16) → ⊥
past_excluded p = absurd (omega (arith, p.once 16, mapped_past))

-- pageblock 2 is still isolated, and its block isn't going
abbrev stale : Memory
stale =
    with_areas booted
    (with_kind booted.free.areas 2 (record (kind_of booted.free.areas 2) { isolated = true }))

stale_once : each_once stale ≡ true
unfolding everything
stale_once = refl

stale_excluded : IsInOrder small stale → ⊥
unfolding everything
stale_excluded h = let flag : true ≡ false = h.isolated 2 in cc

-- ---- histories

-- the record that an event makes after earlier ones, if it is answered as told
abbrev record_of : List Record → (cpu : ℕ) → Event → Reply → Record
record_of earlier cpu event reply =
    record { serial = length earlier + 1; cpu = cpu; event = event; reply = reply }

abbrev with_call : List Record → ℕ × Event × Reply → List Record
with_call earlier call = earlier ++ record_of earlier call.0 call.1 call.2 ∷ []

-- a record with another reply than the definitions give may not stand there
wrong_reply : (h : List Record) (cpu : ℕ) (event : Event) (reply right : Reply)
    → reply_of small booted 0 h cpu event ≡ right → reply ≢ right
    → IsLegal small booted 0 (h ++ record_of h cpu event reply ∷ []) → ⊥
wrong_reply h cpu event reply right is ne legal = ne ((last_follows small booted 0 h _ legal).reply ∙ is)

-- ---- the frames that are handed out

offline_frame : is_unplugged (row_of booted.blocks (block_of small 12)) ≡ true
unfolding everything
offline_frame = refl

first_frame : reply_of small booted 0 [] 0 (KernelAlloc 0) ≡ GivesFrame 0
unfolding everything
first_frame = refl

-- a step that hands out a frame of the offline block
offline_handed : IsLegal small booted 0 (record_of [] 0 (KernelAlloc 0) (GivesFrame 12) ∷ []) → ⊥
offline_handed = wrong_reply [] 0 (KernelAlloc 0) (GivesFrame 12) (GivesFrame 0) first_frame (λ e. cc)

-- a page is mapped to frame 8, and block 2 is to go
abbrev leaving : List Record
leaving = with_call (with_call [] (0, Map 0 0, Done)) (0, Begin (off 2), Opened 2)

going_frame : is_going (row_of (value_of small booted leaving).blocks (block_of small 10)) ≡ true
unfolding everything
going_frame = refl

moved_out : reply_of small booted 0 leaving 0 (Migrate 2) ≡ Moved 8 0
unfolding everything
moved_out = refl

-- a migration to another frame of the block that is going
moved_within : IsLegal small booted 0 (leaving ++ record_of leaving 0 (Migrate 2) (Moved 8 10) ∷ []) → ⊥
moved_within = wrong_reply _ 0 _ _ _ moved_out (λ e. cc)

-- ---- the contents of pages

abbrev written : List Record
written =
    with_call (with_call (with_call [] (0, Map 0 0, Done)) (0, Write 0 0 1 5, Done))
    (0, Begin (off 2), Opened 3)

abbrev migrated : List Record
migrated = with_call written (0, Migrate 3, Moved 8 0)

moved_contents : entry_of (contents_of_net small booted.pages.contents (net_of migrated)) 0 0
    ≡ Some (0 ∷ 5 ∷ [])
unfolding everything
moved_contents = refl

-- a migration that does not take the words along
words_lost : (s : Memory) → s.pages.contents ≡ contents_of_net small booted.pages.contents (net_of migrated)
    → entry_of s.pages.contents 0 0 ≡ Some (0 ∷ 0 ∷ []) → ⊥
words_lost s same zeros = two_contents _ zeros (rw (same, moved_contents))
  where
    two_contents : (o : Option (List ℕ)) → o ≡ Some (0 ∷ 0 ∷ []) → o ≡ Some (0 ∷ 5 ∷ []) → ⊥
    two_contents o e f = cc

-- ---- undo and Cancel

abbrev undone : List Record
undone = with_call (with_call [] (0, KernelAlloc 1, GivesFrame 0)) (0, UndoAfter 0, Undone 1)

undone_mobility : (kind_of (value_of small booted undone).free.areas 0).mobility ≡ Movable
unfolding everything
undone_mobility = refl

-- an undo that leaves the pageblock that the step stole unmovable
undo_excluded : (kind_of (value_of small booted undone).free.areas 0).mobility ≡ Unmovable → ⊥
undo_excluded stolen = two_mobilities (sym stolen ∙ undone_mobility)
  where
    two_mobilities : Unmovable ≡ Movable → ⊥
    two_mobilities e = cc

abbrev restored : List Record
restored = with_call (with_call leaving (0, Migrate 2, Moved 8 0)) (0, Cancel 2, Restored)

restored_page : frame_at (value_of small booted restored).pages 0 0 ≡ Some 8
unfolding everything
restored_page = refl

-- a restoring Cancel that leaves the page where its migration put it
cancel_excluded : frame_at (value_of small booted restored).pages 0 0 ≡ Some 0 → ⊥
cancel_excluded stayed = two_frames _ stayed restored_page
  where
    two_frames : (o : Option ℕ) → o ≡ Some 0 → o ≡ Some 8 → ⊥
    two_frames o e f = cc

-- ---- operations

abbrev three : List Item
three =
    record { block = 0; wish = OffWish } ∷ record { block = 2; wish = OffWish }
    ∷ record { block = 3; wish = MovableWish } ∷ []

-- a Commit that grants two of three wishes
abbrev half : Memory
half =
    with_block_row (with_block_row (with_block_row booted 0 offline_row) 3
    (record { state = OnlineState; zone = Some MovableZone; claim = None })) 2
    (record { state = GoingState; zone = Some MovableZone; claim = Some (record { op = 1; wish = OffWish }) })

half_excluded : RowsAre half three (λ item. wished_row item.wish) → ⊥
unfolding everything
half_excluded rows = still_going _ refl rows.1.0
  where
    two_states : GoingState ≡ OfflineState → ⊥
    two_states e = cc

    still_going : (row : Row) → row.state ≡ GoingState → row ≡ offline_row → ⊥
    still_going row e f = two_states (rw (← e, f))

abbrev drained : List Record
drained =
    with_call (with_call (with_call leaving (0, Migrate 2, Moved 8 0)) (0, DrainFor 2 0, Done))
    (0, DrainFor 2 1, Done)

commit_done : reply_of small booted 0 drained 0 (Commit 2) ≡ Done
unfolding everything
commit_done = refl

-- the page of block 2 moved, both processors' lists were drained, and the Commit is refused all the
-- same
refused_commit : IsLegal small booted 0 (drained ++ record_of drained 0 (Commit 2) (Refused (NotFree 9)) ∷ [])
    → ⊥
refused_commit = wrong_reply _ 0 _ _ Done commit_done (λ e. cc)
