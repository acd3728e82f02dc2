-- Worked operations, computed: one that nothing disturbed and that commits, and one for each
-- condition that is missing.
use Rattle.std.proofs.Common.{◌≡◌, ℕ, suc, ◌<◌, List, [], ◌∷◌, ◌++◌, map, Some, true, refl, arith, ◌==◌}
use Rattle.std.specs.List.{list_all, list_any}
use Rattle.hp_units.specs.declared.rows.Class.TheVariants.{Nm}
use Rattle.hp_units.specs.declared.rows.Mobility.TheVariants.{Unmovable}
use Rattle.hp_units.specs.declared.rows.State.TheVariants.{Going as GoingState}
use Rattle.hp_units.specs.declared.rows.Wish.TheVariants.{Off as OffWish}
use Rattle.hp_units.specs.declared.rows.Zone.TheVariants.{Normal as NormalZone}
use Rattle.hp_units.specs.Arithmetic.{all_frames}
use Rattle.hp_units.specs.Boot.{boot_memory}
use Rattle.hp_units.specs.FreeAreas.{give_block, steal_block, take_block}
use Rattle.hp_units.specs.History.{run}
use Rattle.hp_units.specs.Isolation.{move_pageblock}
use Rattle.hp_units.specs.Memory.{Memory, with_free_list, with_kernel_order, with_kind}
use Rattle.hp_units.specs.ProcessorLists.{drain_lists, put_one, take_frames, take_one}
use Rattle.hp_units.specs.Refusals.{refusal_of}
use Rattle.hp_units.specs.Rows.{begin_plan, commit_blocks, is_live, online_block, release_blocks, with_areas, with_block_row}
use Rattle.hp_units.specs.Step.{kernel_gives, kernel_takes, map_step, migrate_step, step, unmap_step}
use Rattle.hp_units.specs.Placement.{places_of}
use Rattle.hp_laws.specs.Offline.{IsUndisturbed, drains_for}
use Rattle.hp_laws.proofs.Names.{Begin, Commit, Done, DrainFor, GivesFrame, KernelAlloc, KernelFree, Map, NotFree, Opened, Record, Refused, Reply, Unmap}
use Rattle.hp_laws.proofs.SmallLayout.{off, small}

-- opens every definition
unfoldable everything : Unit {0}
unfolding take_block give_block steal_block take_frames take_one put_one drain_lists move_pageblock
    online_block begin_plan commit_blocks release_blocks refusal_of kernel_takes kernel_gives map_step
    unmap_step migrate_step step boot_memory run
everything = tt

-- the replies that the steps give, one after another, and that each record has its step's
abbrev answers : Memory → List Record → List Reply
answers s [] = []
answers s (r ∷ rs) =
    (step small s r.serial r.cpu r.event).reply ∷ answers (step small s r.serial r.cpu r.event).memory rs

-- each record has its step's reply
abbrev AreAnswered : Memory → List Record → Type 0
AreAnswered s records = answers s records ≡ map (λ (r : Record). r.reply) records

-- ---- an operation that nothing disturbs

-- a page was mapped and unmapped, so that two frames of block 2 are on a list of processor 0
abbrev used : List Record
used =
    record { serial = 1; cpu = 0; event = Map 0 0; reply = Done }
    ∷ record { serial = 2; cpu = 0; event = Unmap 0 0; reply = Done }
    ∷ []

-- block 2 goes offline
abbrev opening : Record
opening = record { serial = 3; cpu = 0; event = Begin (off 2); reply = Opened 3 }

-- both processors are drained
abbrev drains : List Record
drains =
    record { serial = 4; cpu = 0; event = DrainFor 3 0; reply = Done }
    ∷ record { serial = 5; cpu = 1; event = DrainFor 3 1; reply = Done }
    ∷ []

-- the state then
abbrev after_drains : Memory
after_drains = run small (boot_memory small) (used ++ opening ∷ drains)

-- each processor is among them
each_drained : (cpu : ℕ) → cpu < 2 → list_any (λ (r : Record). drains_for 3 cpu r.event) drains ≡ true
each_drained (suc (suc n)) low = absurd (omega arith)
each_drained _ low = refl

-- the conditions hold
undisturbed : IsUndisturbed small after_drains 3 (used ++ opening ∷ drains)
unfolding everything
undisturbed = record {
  earlier = used;
  begin = opening;
  work = drains;
  steps = refl;
  opens = refl;
  own = refl;
  drained = each_drained;
  moved = λ frame h. refl;
}

-- and its Commit is done
it_commits : AreAnswered (boot_memory small)
    (used ++ opening ∷ drains ++ record { serial = 6; cpu = 1; event = Commit 3; reply = Done } ∷ [])
unfolding everything
it_commits = refl

-- ---- each condition is needed

-- a processor that isn't drained keeps two of the block's frames
not_drained : AreAnswered (boot_memory small) (used ++ opening
    ∷ record { serial = 4; cpu = 1; event = DrainFor 3 1; reply = Done }
    ∷ record { serial = 5; cpu = 1; event = Commit 3; reply = Refused (NotFree 8) }
    ∷ [])
unfolding everything
not_drained = refl

-- a page that isn't moved keeps its frame
abbrev one_page : List Record
one_page =
    record { serial = 1; cpu = 0; event = Map 0 0; reply = Done }
    ∷ record { serial = 2; cpu = 0; event = Begin (off 2); reply = Opened 2 }
    ∷ record { serial = 3; cpu = 0; event = DrainFor 2 0; reply = Done }
    ∷ record { serial = 4; cpu = 0; event = DrainFor 2 1; reply = Done }
    ∷ record { serial = 5; cpu = 0; event = Commit 2; reply = Refused (NotFree 8) }
    ∷ []

-- so the commit is refused
not_moved : AreAnswered (boot_memory small) one_page
unfolding everything
not_moved = refl

-- before the drains the kernel takes a frame of the going block from a processor's list
abbrev disturbed : List Record
disturbed =
    record { serial = 1; cpu = 0; event = KernelAlloc 0; reply = GivesFrame 0 }
    ∷ record { serial = 2; cpu = 0; event = KernelFree 0; reply = Done }
    ∷ record { serial = 3; cpu = 0; event = Begin (off 0); reply = Opened 3 }
    ∷ record { serial = 4; cpu = 0; event = KernelAlloc 0; reply = GivesFrame 0 }
    ∷ record { serial = 5; cpu = 0; event = DrainFor 3 0; reply = Done }
    ∷ record { serial = 6; cpu = 0; event = DrainFor 3 1; reply = Done }
    ∷ record { serial = 7; cpu = 0; event = Commit 3; reply = Refused (NotFree 0) }
    ∷ []

-- so the commit is refused
not_alone : AreAnswered (boot_memory small) disturbed
unfolding everything
not_alone = refl

-- a base state in which a block with a kernel's block is going for an operation that is still to
-- come
abbrev claimed_early : Memory
claimed_early =
    let s : Memory = boot_memory small in
    let areas =
    with_kind (with_free_list s.free.areas Nm 2 (4 ∷ [])) 0
    (record { mobility = Unmovable; isolated = true }) in
    with_block_row (with_kernel_order (with_areas s areas) 0 (Some 2)) 0 (record {
      state = GoingState;
      zone = Some NormalZone;
      claim = Some (record { op = 1; wish = OffWish });
    })

-- an operation takes the number
abbrev second_claim : List Record
second_claim =
    record { serial = 1; cpu = 0; event = Begin (off 2); reply = Opened 1 }
    ∷ record { serial = 2; cpu = 0; event = DrainFor 1 0; reply = Done }
    ∷ record { serial = 3; cpu = 0; event = DrainFor 1 1; reply = Done }
    ∷ record { serial = 4; cpu = 0; event = Commit 1; reply = Refused (NotFree 0) }
    ∷ []

-- so its commit is refused
not_numbered : AreAnswered claimed_early second_claim
unfolding everything
not_numbered = refl

-- each frame of it is in one place
early_is_placed : list_all (λ (frame : ℕ). places_of small claimed_early frame == 1) (all_frames small) ≡ true
unfolding everything
early_is_placed = refl

-- and the number is in use
early_is_live : is_live claimed_early.blocks 1 ≡ true
unfolding everything
early_is_live = refl
