-- Steps of states in which operations have other numbers.
use Rattle.std.proofs.Common.{◌≡◌, ℕ, ◌/◌, Bool, true, false, cond, List, [], ◌∷◌, Some, None, refl, ap, ◌∙◌, inl, inr}
use Rattle.std.proofs.lemmas.Bool.{cases_Bool}
use Rattle.std.proofs.lemmas.List.{map-set}
use Rattle.std.specs.Prelude.{fold, zero, suc}
use Rattle.std.specs.List.{list_all}
use Rattle.hp_units.specs.Arithmetic.{all_blocks, block_bytes, block_of}
use Rattle.hp_units.specs.LayoutParts.{LayoutParts}
use Rattle.hp_units.specs.Isolation.{add_block, move_block, remove_block}
use Rattle.hp_units.specs.Memory.{FreeAreas, Memory, kernel_order, offline_row, row_of, with_kernel_order}
use Rattle.hp_units.specs.KernelBlocks.{kernel_block}
use Rattle.hp_units.specs.Pages.{frame_at, unmap_page}
use Rattle.hp_units.specs.ProcessorLists.{page_frame}
use Rattle.hp_units.specs.Migrations.{migration_source, migration_target}
use Rattle.hp_units.specs.declared.events.Event.{Event}
use Rattle.hp_units.specs.declared.events.Event.TheVariants.{KernelAlloc, KernelFree, Map, Unmap, Online, Begin, DrainFor, Migrate, Commit, Cancel, Probe, Remove}
use Rattle.hp_units.specs.declared.replies.Reply.TheVariants.{Opened, Released}
use Rattle.hp_units.specs.declared.rows.Auto.{Auto}
use Rattle.hp_units.specs.declared.rows.Auto.TheVariants.{Offline as OfflineAuto, Online as OnlineAuto, OnlineKernel as KernelAuto, OnlineMovable as MovableAuto}
use Rattle.hp_units.specs.declared.rows.State.TheVariants.{Online as OnlineState, Absent as AbsentState}
use Rattle.hp_units.specs.declared.rows.Wish.{Wish}
use Rattle.hp_units.specs.declared.rows.Wish.TheVariants.{Off as OffWish, Normal as NormalWish, Movable as MovableWish}
use Rattle.hp_units.specs.declared.rows.Zone.{Zone}
use Rattle.hp_units.specs.declared.rows.Zone.TheVariants.{Normal as NormalZone, Movable as MovableZone}
use Rattle.hp_units.specs.Refusals.{event_refusals, frame_in_use, is_all_free, offline_refusals, plan_refusals, refusal_of}
use Rattle.hp_units.specs.Rows.{begin_block, begin_plan, blocks_of, claim_block, claimed_row, commit_block, commit_blocks, going_blocks, grant, is_going, offline_block, online_again, online_block, release_block, release_blocks, wish_of, with_areas, with_block_row, zone_of, zone_of_block}
use Rattle.hp_units.specs.Step.{auto_online, done, give_back, kernel_gives, kernel_takes, map_step, migrate_step, perform, step, unmap_step, with_pages}
use Rattle.hp_units.specs.declared.plans.Item.{Item}
use Rattle.hp_units.specs.declared.rows.Row.{Row}
use Rattle.hp_laws.specs.Renumbered.{IsOneToOne, renumbered, renumbered_answer, renumbered_event, renumbered_row}
use Rattle.hp_laws.proofs.Options.{cases_option}
use Rattle.hp_laws.proofs.RenumberedRows.{absent_same, blocks_same, claimed_same, going_blocks_same, live_same, offline_same, online_same, row_same, zone_same}

-- ---- refusals

plan_refused_same : (f : ℕ → ℕ) (l : LayoutParts) (s : Memory) (plan : List Item)
    → plan_refusals l (renumbered f s) plan ≡ plan_refusals l s plan
plan_refused_same f l s plan =
    simp (claimed_same f s.blocks, online_same f s.blocks, offline_same f s.blocks)

offline_refused_same : (f : ℕ → ℕ) (l : LayoutParts) (s : Memory) (block : ℕ)
    → offline_refusals l (renumbered f s) block ≡ offline_refusals l s block
offline_refused_same f l s block = simp (claimed_same f s.blocks, offline_same f s.blocks)

source_same : (f : ℕ → ℕ) → IsOneToOne f → (l : LayoutParts) (s : Memory) (op : ℕ)
    → migration_source l (renumbered f s) (f op) ≡ migration_source l s op
source_same f one l s op = simp (going_blocks_same f one l s.blocks op)

free_same : (f : ℕ → ℕ) (l : LayoutParts) (s : Memory) (block : ℕ)
    → is_all_free l (renumbered f s) block ≡ is_all_free l s block
free_same f l s block = simp (zone_same f s.blocks block)

all_same : (p q : ℕ → Bool) → ((n : ℕ) → p n ≡ q n) → (ns : List ℕ) → list_all p ns ≡ list_all q ns
all_same p q same [] = refl
all_same p q same (n ∷ ns) = rw (same n) (rw (all_same p q same ns) refl)

all_free_same : (f : ℕ → ℕ) → IsOneToOne f → (l : LayoutParts) (s : Memory) (op : ℕ)
    → list_all (is_all_free l (renumbered f s)) (going_blocks l (renumbered f s).blocks (f op))
    ≡ list_all (is_all_free l s) (going_blocks l s.blocks op)
all_free_same f one l s op =
    rw (going_blocks_same f one l s.blocks op)
    (all_same (is_all_free l (renumbered f s)) (is_all_free l s) (free_same f l s)
    (going_blocks l s.blocks op))

in_use_same : (f : ℕ → ℕ) → IsOneToOne f → (l : LayoutParts) (s : Memory) (op : ℕ)
    → frame_in_use l (renumbered f s) (f op) ≡ frame_in_use l s op
in_use_same f one l s op = simp (going_blocks_same f one l s.blocks op)

refused_same : (f : ℕ → ℕ) → IsOneToOne f → (l : LayoutParts) (s : Memory) (cpu : ℕ) (e : Event)
    → event_refusals l (renumbered f s) cpu (renumbered_event f e) ≡ event_refusals l s cpu e
refused_same f one l s cpu (Online block zone) = offline_refused_same f l s block
refused_same f one l s cpu (Begin plan) = plan_refused_same f l s plan
refused_same f one l s cpu (DrainFor op drained) = simp (live_same f one s.blocks op)
refused_same f one l s cpu (Migrate op) = simp (live_same f one s.blocks op, source_same f one l s op)
refused_same f one l s cpu (Commit op) =
    simp (live_same f one s.blocks op, all_free_same f one l s op, in_use_same f one l s op)
refused_same f one l s cpu (Cancel op) = simp (live_same f one s.blocks op)
refused_same f one l s cpu (Probe address) = simp (absent_same f s.blocks)
refused_same f one l s cpu (Remove block) = offline_refused_same f l s block
refused_same f one l s cpu e = refl

pub refusal_same : (f : ℕ → ℕ) → IsOneToOne f → (l : LayoutParts) (s : Memory) (cpu : ℕ) (e : Event)
    → refusal_of l (renumbered f s) cpu (renumbered_event f e) ≡ refusal_of l s cpu e
unfolding refusal_of
refusal_same f one l s cpu e = simp (refused_same f one l s cpu e)

-- ---- changes of blocks

zone_of_same : (f : ℕ → ℕ) (l : LayoutParts) (s : Memory) (frame : ℕ)
    → zone_of l (renumbered f s) frame ≡ zone_of l s frame
zone_of_same f l s frame = zone_same f s.blocks (block_of l frame)

with_block_row_same : (f : ℕ → ℕ) (s : Memory) (block : ℕ) (row : Row)
    → with_block_row (renumbered f s) block (renumbered_row f row)
    ≡ renumbered f (with_block_row s block row)
with_block_row_same f s block row = rw map-set

-- a fold of changes that do the same
fold_same : (f : ℕ → ℕ) (g h : Memory → ℕ → Memory)
    → ((t : Memory) (block : ℕ) → g (renumbered f t) block ≡ renumbered f (h t block))
    → (s : Memory) (blocks : List ℕ) → fold g (renumbered f s) blocks ≡ renumbered f (fold h s blocks)
fold_same f g h same s [] = refl
fold_same f g h same s (block ∷ blocks) = rw (same s block) (fold_same f g h same (h s block) blocks)

-- a change of the areas beside that of a row
placed_same : (f : ℕ → ℕ) (s : Memory) (block : ℕ) (row : Row) (a : FreeAreas)
    → with_areas (with_block_row (renumbered f s) block (renumbered_row f row)) a
    ≡ renumbered f (with_areas (with_block_row s block row) a)
placed_same f s block row a = rw map-set

online_block_same : (f : ℕ → ℕ) (l : LayoutParts) (zone : Zone) (s : Memory) (block : ℕ)
    → online_block l zone (renumbered f s) block ≡ renumbered f (online_block l zone s block)
unfolding online_block
online_block_same f l zone s block =
    placed_same f s block (record { state = OnlineState; zone = Some zone; claim = None })
    (add_block l zone s.free.areas block)

-- an operation claims a block
claim_same : (f : ℕ → ℕ) (l : LayoutParts) (op : ℕ) (s : Memory) (block : ℕ) (wish : Wish)
    → claim_block l (f op) (renumbered f s) block wish ≡ renumbered f (claim_block l op s block wish)
claim_same f l op s block OffWish =
    rw (row_same f s.blocks block) (placed_same f s block (claimed_row (row_of s.blocks block) op OffWish)
    (move_block l (zone_of_block s.blocks block) true s.free.areas block))
claim_same f l op s block wish =
    rw (row_same f s.blocks block)
    (with_block_row_same f s block (claimed_row (row_of s.blocks block) op wish))

begin_same : (f : ℕ → ℕ) (l : LayoutParts) (op : ℕ) (plan : List Item) (s : Memory) (block : ℕ)
    → begin_block l (f op) plan (renumbered f s) block ≡ renumbered f (begin_block l op plan s block)
begin_same f l op plan s block =
    elim (cases_option (wish_of plan block))
    [ inl e ↦ rw e | inr e ↦ rw e.1 (claim_same f l op s block e.0) ]

begin_plan_same : (f : ℕ → ℕ) (l : LayoutParts) (s : Memory) (op : ℕ) (plan : List Item)
    → begin_plan l (renumbered f s) (f op) plan ≡ renumbered f (begin_plan l s op plan)
unfolding begin_plan
begin_plan_same f l s op plan =
    fold_same f (begin_block l (f op) plan) (begin_block l op plan) (begin_same f l op plan) s
    (all_blocks l)

-- an operation commits
offline_block_same : (f : ℕ → ℕ) (l : LayoutParts) (s : Memory) (block : ℕ)
    → offline_block l (renumbered f s) block ≡ renumbered f (offline_block l s block)
offline_block_same f l s block =
    rw (zone_same f s.blocks block)
    (placed_same f s block offline_row (remove_block l (zone_of_block s.blocks block) s.free.areas block))

grant_same : (f : ℕ → ℕ) (l : LayoutParts) (s : Memory) (block : ℕ) (wish : Wish)
    → grant l (renumbered f s) block wish ≡ renumbered f (grant l s block wish)
grant_same f l s block OffWish = offline_block_same f l s block
grant_same f l s block NormalWish = online_block_same f l NormalZone s block
grant_same f l s block MovableWish = online_block_same f l MovableZone s block

commit_block_same : (f : ℕ → ℕ) (l : LayoutParts) (s : Memory) (block : ℕ)
    → commit_block l (renumbered f s) block ≡ renumbered f (commit_block l s block)
commit_block_same f l s block =
    rw (row_same f s.blocks block) (elim (cases_option (row_of s.blocks block).claim)
    [ inl e ↦ rw e | inr e ↦ rw e.1 (grant_same f l s block e.0.wish) ])

commit_same : (f : ℕ → ℕ) → IsOneToOne f → (l : LayoutParts) (s : Memory) (op : ℕ)
    → commit_blocks l (renumbered f s) (f op) ≡ renumbered f (commit_blocks l s op)
unfolding commit_blocks
commit_same f one l s op =
    ap (fold (commit_block l) (renumbered f s)) (blocks_same f one l s.blocks op)
    ∙ fold_same f (commit_block l) (commit_block l) (commit_block_same f l) s (blocks_of l s.blocks op)

-- an operation releases its blocks
online_again_same : (f : ℕ → ℕ) (l : LayoutParts) (s : Memory) (block : ℕ)
    → online_again l (renumbered f s) block ≡ renumbered f (online_again l s block)
online_again_same f l s block =
    rw (row_same f s.blocks block)
    (placed_same f s block (record { state = OnlineState; zone = (row_of s.blocks block).zone; claim = None })
    (move_block l (zone_of_block s.blocks block) false s.free.areas block))

abbrev without_claim : Row → Row
without_claim row = record { state = row.state; zone = row.zone; claim = None }

release_block_same : (f : ℕ → ℕ) (l : LayoutParts) (s : Memory) (block : ℕ)
    → release_block l (renumbered f s) block ≡ renumbered f (release_block l s block)
release_block_same f l s block =
    ap (λ (row : Row). cond (is_going row) (online_again l (renumbered f s) block)
    (with_block_row (renumbered f s) block (without_claim row))) (row_same f s.blocks block)
    ∙ elim (cases_Bool (is_going (row_of s.blocks block))) [
      | inl e ↦ rw e (online_again_same f l s block)
      | inr e ↦ rw e (with_block_row_same f s block (without_claim (row_of s.blocks block)))
    ]

release_same : (f : ℕ → ℕ) → IsOneToOne f → (l : LayoutParts) (s : Memory) (op : ℕ)
    → release_blocks l (renumbered f s) (f op) ≡ renumbered f (release_blocks l s op)
unfolding release_blocks
release_same f one l s op =
    ap (fold (release_block l) (renumbered f s)) (blocks_same f one l s.blocks op)
    ∙ fold_same f (release_block l) (release_block l) (release_block_same f l) s (blocks_of l s.blocks op)

-- ---- changes of frames

give_back_same : (f : ℕ → ℕ) (l : LayoutParts) (s : Memory) (cpu frame order : ℕ)
    → give_back l (renumbered f s) cpu frame order ≡ renumbered f (give_back l s cpu frame order)
give_back_same f l s cpu frame zero = rw (zone_of_same f l s frame)
give_back_same f l s cpu frame (suc below) = rw (zone_of_same f l s frame)

takes_same : (f : ℕ → ℕ) (l : LayoutParts) (s : Memory) (cpu order : ℕ)
    → kernel_takes l (renumbered f s) cpu order ≡ renumbered_answer f (kernel_takes l s cpu order)
unfolding kernel_takes
takes_same f l s cpu order =
    elim (cases_option (kernel_block l s.free cpu order)) [ inl e ↦ rw e | inr e ↦ rw e.1 ]

gives_same : (f : ℕ → ℕ) (l : LayoutParts) (s : Memory) (cpu frame : ℕ)
    → kernel_gives l (renumbered f s) cpu frame ≡ renumbered_answer f (kernel_gives l s cpu frame)
unfolding kernel_gives
gives_same f l s cpu frame =
    elim (cases_option (kernel_order s frame)) [
      | inl e ↦ rw e
      | inr e ↦ rw e.1 (ap done (give_back_same f l (with_kernel_order s frame None) cpu frame e.0))
    ]

map_same : (f : ℕ → ℕ) (l : LayoutParts) (s : Memory) (cpu owner page : ℕ)
    → map_step l (renumbered f s) cpu owner page ≡ renumbered_answer f (map_step l s cpu owner page)
unfolding map_step
map_same f l s cpu owner page =
    elim (cases_option (page_frame l s.free cpu)) [ inl e ↦ rw e | inr e ↦ rw e.1 ]

unmap_same : (f : ℕ → ℕ) (l : LayoutParts) (s : Memory) (cpu owner page : ℕ)
    → unmap_step l (renumbered f s) cpu owner page ≡ renumbered_answer f (unmap_step l s cpu owner page)
unfolding unmap_step
unmap_same f l s cpu owner page =
    elim (cases_option (frame_at s.pages owner page)) [
      | inl e ↦ rw e
      | inr e ↦ rw e.1 (ap done (give_back_same f l (with_pages s (unmap_page s.pages owner page)) cpu e.0 0))
    ]

auto_same : (f : ℕ → ℕ) (l : LayoutParts) (auto : Auto) (s : Memory) (block : ℕ)
    → auto_online l auto (renumbered f s) block ≡ renumbered f (auto_online l auto s block)
auto_same f l OfflineAuto s block = refl
auto_same f l OnlineAuto s block = online_block_same f l NormalZone s block
auto_same f l KernelAuto s block = online_block_same f l NormalZone s block
auto_same f l MovableAuto s block = online_block_same f l MovableZone s block

migrate_same : (f : ℕ → ℕ) → IsOneToOne f → (l : LayoutParts) (s : Memory) (op : ℕ)
    → migrate_step l (renumbered f s) (f op) ≡ renumbered_answer f (migrate_step l s op)
unfolding migrate_step
migrate_same f one l s op =
    rw (source_same f one l s op) (elim (cases_option (migration_source l s op)) [
      | inl e ↦ rw e
      | inr e ↦ elim (cases_option (migration_target l s.free.areas))
          [ inl t ↦ rw (e.1, t) | inr t ↦ rw (e.1, t.1, zone_of_same f l s e.0) ]
    ])

-- ---- steps

perform_same : (f : ℕ → ℕ) → IsOneToOne f → (l : LayoutParts) (s : Memory) (serial cpu : ℕ) (e : Event)
    → perform l (renumbered f s) (f serial) cpu (renumbered_event f e)
    ≡ renumbered_answer f (perform l s serial cpu e)
perform_same f one l s serial cpu (KernelAlloc order) = takes_same f l s cpu order
perform_same f one l s serial cpu (KernelFree frame) = gives_same f l s cpu frame
perform_same f one l s serial cpu (Map owner page) = map_same f l s cpu owner page
perform_same f one l s serial cpu (Unmap owner page) = unmap_same f l s cpu owner page
perform_same f one l s serial cpu (Online block zone) = ap done (online_block_same f l zone s block)
perform_same f one l s serial cpu (Begin plan) =
    ap (λ (t : Memory). record { memory = t; reply = Opened (f serial) })
    (begin_plan_same f l s serial plan)
perform_same f one l s serial cpu (Migrate op) = migrate_same f one l s op
perform_same f one l s serial cpu (Commit op) = ap done (commit_same f one l s op)
perform_same f one l s serial cpu (Cancel op) =
    ap (λ (t : Memory). record { memory = t; reply = Released }) (release_same f one l s op)
perform_same f one l s serial cpu (Probe address) =
    ap (λ (t : Memory). done (auto_online l s.blocks.auto t (address / block_bytes l)))
    (with_block_row_same f s (address / block_bytes l) offline_row)
    ∙ ap done (auto_same f l s.blocks.auto (with_block_row s (address / block_bytes l) offline_row)
    (address / block_bytes l))
perform_same f one l s serial cpu (Remove block) =
    ap done (with_block_row_same f s block (record { state = AbsentState; zone = None; claim = None }))
perform_same f one l s serial cpu e = refl

pub step_same : (f : ℕ → ℕ) → IsOneToOne f → (l : LayoutParts) (s : Memory) (serial cpu : ℕ) (e : Event)
    → step l (renumbered f s) (f serial) cpu (renumbered_event f e)
    ≡ renumbered_answer f (step l s serial cpu e)
unfolding step
step_same f one l s serial cpu e =
    rw (refusal_same f one l s cpu e) (elim (cases_option (refusal_of l s cpu e))
    [ inl none ↦ rw none (perform_same f one l s serial cpu e) | inr refusal ↦ rw refusal.1 ])
