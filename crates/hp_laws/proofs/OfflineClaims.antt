-- The numbers of the operations that hold blocks: only a Begin's serial becomes one.
use Rattle.hp_laws.proofs.Options.{option_cases}
use Rattle.std.proofs.Common.{◌≡◌, ℕ, zero, suc, ◌+◌, ◌≤◌, List, [], ◌∷◌, length, get_or, set, false, Option, Some, None, slice_get, refl, arith, IfSome, ◌≢◌, ◌<◌, ◌==◌, eq-eqb, ne_eqb}
use Rattle.std.specs.Prelude.{fold, replicate}
use Rattle.std.specs.List.{AllByRecursion, enumerate_from, list_any}
use Rattle.std.specs.Option.{option_map_or}
use Rattle.std.proofs.lemmas.Bool.{both_ways, or_from, or_parts, cond_both}
use Rattle.hp_units.specs.declared.plans.Item.{Item}
use Rattle.hp_units.specs.declared.rows.Auto.{Auto}
use Rattle.hp_units.specs.declared.rows.Auto.TheVariants.{Offline as OfflineAuto, OnlineMovable as MovableAuto}
use Rattle.hp_units.specs.declared.rows.Boot.{Boot}
use Rattle.hp_units.specs.declared.rows.Boot.TheVariants.{Offline as OfflineBoot, Normal as NormalBoot, Movable as MovableBoot, Absent as AbsentBoot}
use Rattle.hp_units.specs.declared.rows.Claim.{Claim}
use Rattle.hp_units.specs.declared.rows.Row.{Row}
use Rattle.hp_units.specs.declared.rows.Wish.{Wish}
use Rattle.hp_units.specs.declared.rows.Wish.TheVariants.{Off as OffWish}
use Rattle.hp_units.specs.declared.rows.Zone.{Zone}
use Rattle.hp_units.specs.LayoutParts.{LayoutParts}
use Rattle.hp_units.specs.Arithmetic.{all_blocks}
use Rattle.hp_units.specs.Boot.{boot_block, boot_memory, empty_memory}
use Rattle.hp_units.specs.Memory.{Blocks, Memory, offline_row, row_of}
use Rattle.hp_units.specs.History.{IsLegal, run, value_of}
use Rattle.hp_units.specs.Rows.{is_claimed_by, begin_block, begin_plan, blocks_of, claim_block, commit_block, commit_blocks, grant, is_going, online_block, release_block, release_blocks, wish_of}
use Rattle.hp_units.specs.Step.{answer, auto_online, perform, step}
use Rattle.hp_laws.specs.Offline.{AreClaimedUpTo, AreHeldBy, IsHeldBy}
use Rattle.hp_laws.proofs.Names.{Event, KernelAlloc, KernelFree, Map, Unmap, Online, Begin, Migrate, Commit, Cancel, Probe, Remove, Record, Refusal}
use Rattle.hp_laws.proofs.Earlier.{numbered_net}
use Rattle.hp_laws.proofs.StepBlocks.{kernel_takes-blocks, kernel_gives-blocks, map_step-blocks, unmap_step-blocks}
use Rattle.hp_laws.proofs.OperationEvents.{migrate_step-blocks}

-- ---- rows written one after another

-- one row
claimed_set : (P : ℕ → Type 0) (rows : List Row) (block : ℕ) (row : Row) → AllByRecursion (IsHeldBy P) rows
    → IsHeldBy P row → AllByRecursion (IsHeldBy P) (set rows block row)
claimed_set P [] block row h k = h
claimed_set P (x ∷ xs) zero row h k = (k, h.1)
claimed_set P (x ∷ xs) (suc block) row h k = (h.0, claimed_set P xs block row h.1 k)

-- a block's claim
pub claimed_at : (P : ℕ → Type 0) (rows : List Row) (block : ℕ) → AllByRecursion (IsHeldBy P) rows
    → IsHeldBy P (get_or rows block offline_row)
claimed_at P [] block h = tt
claimed_at P (x ∷ xs) zero h = h.0
claimed_at P (x ∷ xs) (suc block) h = claimed_at P xs block h.1

-- by other numbers too
held_weaker : (P Q : ℕ → Type 0) (rows : List Row) → ((op : ℕ) → P op → Q op)
    → AllByRecursion (IsHeldBy P) rows → AllByRecursion (IsHeldBy Q) rows
held_weaker P Q [] more h = tt
held_weaker P Q (row ∷ rows) more h = (by_claim _ h.0, held_weaker P Q rows more h.1)
  where
    by_claim : (claim : Option Claim) → IfSome claim (λ c. P c.op) → IfSome claim (λ c. Q c.op)
    by_claim None k = tt
    by_claim (Some c) k = more c.op k

-- no row carries a number that isn't live
pub held_others : (op : ℕ) (rows : List Row) → list_any (is_claimed_by op) rows ≡ false
    → AllByRecursion (IsHeldBy (λ n. n ≢ op)) rows
held_others op [] e = tt
held_others op (row ∷ rows) e = (
  by_claim _ (or_parts _ _ e).0,
  held_others op rows (or_parts _ _ e).1,
)
  where
    by_claim : (claim : Option Claim) → option_map_or (λ c. c.op == op) claim false ≡ false
        → IfSome claim (λ c. c.op ≢ op)
    by_claim None e = tt
    by_claim (Some c) e = λ same. both_ways (c.op == op) e (eq-eqb c.op op same)

-- and a number that no row carries isn't live
pub others_live : (op : ℕ) (rows : List Row) → AllByRecursion (IsHeldBy (λ n. n ≢ op)) rows
    → list_any (is_claimed_by op) rows ≡ false
others_live op [] h = refl
others_live op (row ∷ rows) h =
    or_from (is_claimed_by op row) (list_any (is_claimed_by op) rows) (by_claim _ h.0)
    (others_live op rows h.1)
  where
    by_claim : (claim : Option Claim) → IfSome claim (λ c. c.op ≢ op)
        → option_map_or (λ c. c.op == op) claim false ≡ false
    by_claim None k = refl
    by_claim (Some c) k = ne_eqb c.op op k

-- each of several blocks is written
claims_fold : {X : Type 0} (P : ℕ → Type 0) (f : Memory → X → Memory)
    → ((s : Memory) (x : X) → AreHeldBy P s.blocks → AreHeldBy P (f s x).blocks) → (s : Memory) (xs : List X)
    → AreHeldBy P s.blocks → AreHeldBy P (fold f s xs).blocks
claims_fold P f k s [] h = h
claims_fold P f k s (x ∷ xs) h = claims_fold P f k _ xs (k s x h)

-- a block goes online
online-claims : (l : LayoutParts) (P : ℕ → Type 0) (zone : Zone) (s : Memory) (block : ℕ)
    → AreHeldBy P s.blocks → AreHeldBy P (online_block l zone s block).blocks
unfolding online_block
online-claims l P zone s block h = claimed_set P _ block _ h tt

-- a block is claimed
claim-claims : (l : LayoutParts) (P : ℕ → Type 0) (op : ℕ) (s : Memory) (block : ℕ) (wish : Wish) → P op
    → AreHeldBy P s.blocks → AreHeldBy P (claim_block l op s block wish).blocks
claim-claims l P op s block OffWish le h = claimed_set P _ block _ h le
claim-claims l P op s block _ le h = claimed_set P _ block _ h le

-- an operation begins
begin-claims : (l : LayoutParts) (P : ℕ → Type 0) (op : ℕ) (s : Memory) (plan : List Item) → P op
    → AreHeldBy P s.blocks → AreHeldBy P (begin_plan l s op plan).blocks
unfolding begin_plan
begin-claims l P op s plan le h =
    claims_fold P (begin_block l op plan) (λ t block k. option_cases (λ (u : Memory). AreHeldBy P u.blocks)
    (claim_block l op t block) (wish_of plan block) t (λ wish is. claim-claims l P op t block wish le k)
    (λ none. k)) s (all_blocks l) h

-- a block gets its wish
grant-claims : (l : LayoutParts) (P : ℕ → Type 0) (s : Memory) (block : ℕ) (wish : Wish)
    → AreHeldBy P s.blocks → AreHeldBy P (grant l s block wish).blocks
grant-claims l P s block OffWish h = claimed_set P _ block _ h tt
grant-claims l P s block _ h = online-claims l P _ s block h

-- an operation commits
commit-claims : (l : LayoutParts) (P : ℕ → Type 0) (op : ℕ) (s : Memory) → AreHeldBy P s.blocks
    → AreHeldBy P (commit_blocks l s op).blocks
unfolding commit_blocks
commit-claims l P op s h =
    claims_fold P (commit_block l) (λ t block k. option_cases (λ (u : Memory). AreHeldBy P u.blocks)
    (λ claim. grant l t block claim.wish) (row_of t.blocks block).claim t
    (λ claim is. grant-claims l P t block claim.wish k) (λ none. k)) s (blocks_of l s.blocks op) h

-- an operation is released
release-claims : (l : LayoutParts) (P : ℕ → Type 0) (op : ℕ) (s : Memory) → AreHeldBy P s.blocks
    → AreHeldBy P (release_blocks l s op).blocks
unfolding release_blocks
release-claims l P op s h =
    claims_fold P (release_block l) (λ t block k. cond_both (is_going (row_of t.blocks block)) _ _
    (λ (u : Memory). AreHeldBy P u.blocks) (λ going. claimed_set P t.blocks.rows block _ k tt)
    (λ still. claimed_set P t.blocks.rows block _ k tt)) s (blocks_of l s.blocks op) h

-- a block is added
auto-claims : (l : LayoutParts) (P : ℕ → Type 0) (auto : Auto) (s : Memory) (block : ℕ) → AreHeldBy P s.blocks
    → AreHeldBy P (auto_online l auto s block).blocks
auto-claims l P OfflineAuto s block h = h
auto-claims l P MovableAuto s block h = online-claims l P _ s block h
auto-claims l P _ s block h = online-claims l P _ s block h

-- ---- each step

-- what leaves the blocks leaves the claims
same-claims : (P : ℕ → Type 0) (s : Memory) (blocks : Blocks) → blocks ≡ s.blocks → AreHeldBy P s.blocks
    → AreHeldBy P blocks
same-claims P s blocks e h = rw e h

-- an event that is not refused
perform-claims : (l : LayoutParts) (P : ℕ → Type 0) (s : Memory) (serial cpu : ℕ) (event : Event) → P serial
    → AreHeldBy P s.blocks → AreHeldBy P (perform l s serial cpu event).memory.blocks
perform-claims l P s serial cpu (KernelAlloc order) le h =
    same-claims P s _ (kernel_takes-blocks l s cpu order) h
perform-claims l P s serial cpu (KernelFree frame) le h =
    same-claims P s _ (kernel_gives-blocks l s cpu frame) h
perform-claims l P s serial cpu (Map owner page) le h =
    same-claims P s _ (map_step-blocks l s cpu owner page) h
perform-claims l P s serial cpu (Unmap owner page) le h =
    same-claims P s _ (unmap_step-blocks l s cpu owner page) h
perform-claims l P s serial cpu (Online block zone) le h = online-claims l P zone s block h
perform-claims l P s serial cpu (Begin plan) le h = begin-claims l P serial s plan le h
perform-claims l P s serial cpu (Migrate op) le h = same-claims P s _ (migrate_step-blocks l s op) h
perform-claims l P s serial cpu (Commit op) le h = commit-claims l P op s h
perform-claims l P s serial cpu (Cancel op) le h = release-claims l P op s h
perform-claims l P s serial cpu (Probe address) le h = auto-claims l P _ _ _ (claimed_set P _ _ _ h tt)
perform-claims l P s serial cpu (Remove block) le h = claimed_set P _ block _ h tt
perform-claims l P s serial cpu _ le h = h

-- an event, by its refusal
answer-claims : (l : LayoutParts) (P : ℕ → Type 0) (s : Memory) (serial cpu : ℕ) (event : Event)
    (o : Option Refusal)
    → P serial → AreHeldBy P s.blocks → AreHeldBy P (answer l s serial cpu event o).memory.blocks
answer-claims l P s serial cpu event (Some refusal) le h = h
answer-claims l P s serial cpu event None le h = perform-claims l P s serial cpu event le h

-- each step
pub step-claims : (l : LayoutParts) (P : ℕ → Type 0) (s : Memory) (serial cpu : ℕ) (event : Event) → P serial
    → AreHeldBy P s.blocks → AreHeldBy P (step l s serial cpu event).memory.blocks
unfolding step
step-claims l P s serial cpu event le h = answer-claims l P s serial cpu event _ le h

-- ---- histories

-- steps one after another
pub run-claims : (l : LayoutParts) (P : ℕ → Type 0) (s : Memory) (steps : List Record)
    → ((i : ℕ) (r : Record) → slice_get steps i ≡ Some r → P r.serial) → AreHeldBy P s.blocks
    → AreHeldBy P (run l s steps).blocks
unfolding run
run-claims l P s [] low h = h
run-claims l P s (r ∷ rs) low h =
    run-claims l P (step l s r.serial r.cpu r.event).memory rs (λ i x e. low (suc i) x e)
    (step-claims l P s _ r.cpu r.event (low 0 r refl) h)

-- the operations of a legal history have numbers up to its last record's
pub value-claims : (l : LayoutParts) (base : Memory) (before : ℕ) (h : List Record) → IsLegal l base before h
    → AreClaimedUpTo before base.blocks → AreClaimedUpTo (before + length h) (value_of l base h).blocks
unfolding value_of
value-claims l base before h legal claims =
    run-claims l (λ op. op ≤ before + length h) base _ (numbered_net l base before h legal).under
    (held_weaker (λ op. op ≤ before) (λ op. op ≤ before + length h) _ (λ op le. omega arith) claims)

-- so a greater number is not live
pub numbered_others : (last op : ℕ) (blocks : Blocks) → last < op → AreClaimedUpTo last blocks
    → list_any (is_claimed_by op) blocks.rows ≡ false
numbered_others last op blocks low h =
    others_live op _ (held_weaker (λ n. n ≤ last) (λ n. n ≢ op) _ (λ n le same. absurd (omega arith)) h)

-- no operation holds a block when a machine starts
replicated : (P : ℕ → Type 0) (n : ℕ) → AllByRecursion (IsHeldBy P) (replicate n offline_row)
replicated P zero = tt
replicated P (suc n) = (tt, replicated P n)

-- so the state at the start has no claims
pub boot-claims : (l : LayoutParts) (P : ℕ → Type 0) → AreHeldBy P (boot_memory l).blocks
unfolding boot_memory
boot-claims l P =
    claims_fold P (λ s entry. boot_block l s entry.0 entry.1) (λ s entry k. by_boot s _ _ k)
    (empty_memory l) (enumerate_from 0 l.boot) (replicated P _)
  where
    by_boot : (s : Memory) (block : ℕ) (boot : Boot) → AreHeldBy P s.blocks
        → AreHeldBy P (boot_block l s block boot).blocks
    by_boot s block OfflineBoot k = k
    by_boot s block NormalBoot k = online-claims l P _ s block k
    by_boot s block MovableBoot k = online-claims l P _ s block k
    by_boot s block AbsentBoot k = claimed_set P _ block _ k tt
