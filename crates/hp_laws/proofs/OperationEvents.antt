-- What an event makes of the rows of the blocks that an operation holds.
use Rattle.std.proofs.Common.{◌≡◌, ◌≢◌, ℕ, ◌<◌, List, length, get_or, set, Bool, true, false, cond, Option, Some, None, refl, sym, ◌∙◌, arith, inl, inr, length-set, eq-eqb, eqb-true, ne_eqb, ◌==◌}
use Rattle.std.specs.Prelude.{find}
use Rattle.std.specs.Option.{option_map, option_map_or}
use Rattle.std.proofs.lemmas.Bool.{both_ways, cases_eq, cases_Bool}
use Rattle.std.proofs.lemmas.List.{get_or-set_other, get_or-set_same}
use Rattle.hp_units.specs.declared.plans.Item.{Item}
use Rattle.hp_units.specs.declared.rows.Auto.{Auto}
use Rattle.hp_units.specs.declared.rows.Auto.TheVariants.{Offline as OfflineAuto, OnlineMovable as MovableAuto}
use Rattle.hp_units.specs.declared.rows.Claim.{Claim}
use Rattle.hp_units.specs.declared.rows.Row.{Row}
use Rattle.hp_units.specs.declared.rows.State.{State}
use Rattle.hp_units.specs.declared.rows.State.TheVariants.{Online as OnlineState, Absent as AbsentState}
use Rattle.hp_units.specs.declared.rows.Wish.{Wish}
use Rattle.hp_units.specs.declared.rows.Wish.TheVariants.{Off as OffWish, Normal as NormalWish, Movable as MovableWish}
use Rattle.hp_units.specs.declared.rows.Zone.{Zone}
use Rattle.hp_units.specs.LayoutParts.{LayoutParts}
use Rattle.hp_units.specs.Choices.{first_some}
use Rattle.hp_units.specs.Memory.{Memory, offline_row, row_of}
use Rattle.hp_units.specs.Migrations.{migration_source, migration_target}
use Rattle.hp_units.specs.Refusals.{plan_refusals}
use Rattle.hp_units.specs.Rows.{is_absent, is_absent_state, is_claimed, is_claimed_by, begin_plan, commit_blocks, online_block, release_blocks, with_block_row, is_going, wish_of}
use Rattle.hp_units.specs.Step.{auto_online, migrate_step}
use Rattle.hp_units.specs.Placement.{IsRowOf, IsWellPlaced}
use Rattle.hp_laws.specs.Operations.{ends, wished_row}
use Rattle.hp_laws.proofs.Names.{Event, Begin, Commit, Cancel}
use Rattle.hp_laws.proofs.EventSteps.{not_there}
use Rattle.hp_laws.proofs.Options.{found_fails, found_passes, map_none}
use Rattle.hp_laws.proofs.OwnedContents.{all_none}
use Rattle.hp_laws.proofs.OperationRows.{begin-row, begun_row, commit-row, committed_row, release-row, released_row}
use Rattle.hp_laws.proofs.StepBlocks.{answered-blocks}

-- ---- a row and what a step makes of it

-- a row that an operation claims stays where the event doesn't end it, and one that it doesn't
-- claim is claimed only by a step with the operation's number
pub record IsRowStep (op serial : ℕ) (event : Event) (old new : Row) : Type 0 where
  pub kept : is_claimed_by op old ≡ true → ends op event ≡ false → new ≡ old
  pub free : is_claimed_by op old ≡ false → serial ≢ op → is_claimed_by op new ≡ false

pub row_stays : (op serial : ℕ) (event : Event) (old new : Row) → new ≡ old
    → IsRowStep op serial event old new
row_stays op serial event old new same = record {
  kept = λ mine stays. same;
  free = λ unclaimed ne. rw (same, unclaimed);
}

pub no_claim : (op : ℕ) (claim : Option Claim) → claim ≡ None
    → option_map_or (λ c. c.op == op) claim false ≡ false
no_claim op claim e = rw e

-- a row without a claim may become any other without one
row_free : (op serial : ℕ) (event : Event) (old new : Row) → old.claim ≡ None → new.claim ≡ None
    → IsRowStep op serial event old new
row_free op serial event old new was is = record {
  kept = λ mine stays. absurd (both_ways (is_claimed_by op old) (no_claim op _ was) mine);
  free = λ unclaimed ne. no_claim op _ is;
}

rows_trans : (op serial : ℕ) (event : Event) (old mid new : Row) → IsRowStep op serial event old mid
    → IsRowStep op serial event mid new → IsRowStep op serial event old new
rows_trans op serial event old mid new h k = record {
  kept = λ mine stays.
      let first : mid ≡ old = h.kept mine stays in
      k.kept (rw (first, mine)) stays ∙ first;
  free = λ unclaimed ne. k.free (h.free unclaimed ne) ne;
}

pub without_claim : (row : Row) → is_claimed row ≡ false → row.claim ≡ None
without_claim row e = not_there _ e

-- one row is set, which has no claim before and after
pub set_free : (op serial : ℕ) (event : Event) (rows : List Row) (at block : ℕ) (row : Row)
    → block < length rows
    → (get_or rows at offline_row).claim ≡ None → row.claim ≡ None
    → IsRowStep op serial event (get_or rows block offline_row) (get_or (set rows at row) block offline_row)
set_free op serial event rows at block row short was is = elim (cases_eq block at) [
  | inl same ↦
      let here : get_or (set rows at row) block offline_row ≡ row =
      rw (← same) (get_or-set_same rows block row offline_row short) in
      row_free op serial event _ _ (rw (same, was)) (rw (here, is))
  | inr ne ↦ row_stays op serial event _ _ (get_or-set_other rows at block row offline_row ne)
]

-- ---- events that leave the rows

pub migrate_step-blocks : (l : LayoutParts) (s : Memory) (op : ℕ)
    → (migrate_step l s op).memory.blocks ≡ s.blocks
unfolding migrate_step
migrate_step-blocks l s op =
    answered-blocks _ s (migration_source l s op)
    (λ from. answered-blocks _ s (migration_target l s.free.areas) (λ taken. refl))

-- ---- events that change rows

-- a block goes online, or is added, or removed
pub online_block-row : (l : LayoutParts) (op serial : ℕ) (event : Event) (zone : Zone) (s : Memory)
    (at block : ℕ)
    → block < length s.blocks.rows → (row_of s.blocks at).claim ≡ None
    → IsRowStep op serial event (row_of s.blocks block) (row_of (online_block l zone s at).blocks block)
unfolding online_block
online_block-row l op serial event zone s at block short was =
    set_free op serial event _ at block
    (record { state = OnlineState; zone = Some zone; claim = None }) short was refl

auto-row : (l : LayoutParts) (op serial : ℕ) (event : Event) (auto : Auto) (s : Memory) (at block : ℕ)
    → block < length s.blocks.rows → (row_of s.blocks at).claim ≡ None
    → IsRowStep op serial event (row_of s.blocks block) (row_of (auto_online l auto s at).blocks block)
auto-row l op serial event OfflineAuto s at block short was = row_stays op serial event _ _ refl
auto-row l op serial event MovableAuto s at block short was =
    online_block-row l op serial event _ s at block short was
auto-row l op serial event _ s at block short was = online_block-row l op serial event _ s at block short was

absent_claim : (state : State) (zone : Option Zone) (claim : Option Claim) → is_absent_state state ≡ true
    → IsRowOf state zone claim → claim ≡ None
absent_claim AbsentState _ claim e h = h.1
absent_claim _ _ claim e h = cc

pub probe-row : (l : LayoutParts) (op serial : ℕ) (event : Event) (s : Memory) (at block : ℕ)
    → IsWellPlaced l s
    → at < l.blocks → is_absent (row_of s.blocks at) ≡ true → block < length s.blocks.rows
    → IsRowStep op serial event (row_of s.blocks block)
    (row_of (auto_online l s.blocks.auto (with_block_row s at offline_row) at).blocks block)
probe-row l op serial event s at block p low absent short =
    let old : Row = row_of s.blocks at in
    let was : old.claim ≡ None = absent_claim _ _ _ absent (p.in_order.rows at) in
    let there : row_of (with_block_row s at offline_row).blocks at ≡ offline_row =
    get_or-set_same s.blocks.rows at offline_row offline_row (omega (arith, p.in_order.shape.rows)) in
    rows_trans op serial event _ _ _ (set_free op serial event _ at block offline_row short was refl)
    (auto-row l op serial event _ _ at block
    (omega (arith, length-set s.blocks.rows at offline_row)) (rw there))

-- an operation begins: it claims rows that had no claim
claims_it : (op serial : ℕ) (row : Row) (wish : Wish) → serial ≢ op
    → is_claimed_by op (begun_row serial (Some wish) row) ≡ false
claims_it op serial row OffWish ne = ne_eqb serial op ne
claims_it op serial row NormalWish ne = ne_eqb serial op ne
claims_it op serial row MovableWish ne = ne_eqb serial op ne

-- what a plan that isn't refused wishes for has no claim
pub plan_free : (l : LayoutParts) (s : Memory) (plan : List Item) (block : ℕ) (wish : Wish)
    → first_some (plan_refusals l s plan) ≡ None → wish_of plan block ≡ Some wish
    → is_claimed (row_of s.blocks block) ≡ false
plan_free l s plan block wish e is =
    by_item _ refl is (map_none _ _ (all_none (plan_refusals l s plan) e).1.1.1.0)
  where
    by_item : (o : Option Item) → find (λ item. item.block == block) plan ≡ o
        → option_map (λ item. item.wish) o ≡ Some wish
        → find (λ item. is_claimed (row_of s.blocks item.block)) plan ≡ None
        → is_claimed (row_of s.blocks block) ≡ false
    by_item None found f none = cc
    by_item (Some item) found f none =
        let same : item.block ≡ block =
        eqb-true item.block block (found_passes (λ i. i.block == block) plan item found) in
        rw (← same) (found_fails
        (λ i. is_claimed (row_of s.blocks i.block)) (λ i. i.block == block) plan item none found)

pub begin_step-row : (l : LayoutParts) (op serial : ℕ) (s : Memory) (plan : List Item) (block : ℕ)
    → block < l.blocks → length s.blocks.rows ≡ l.blocks → first_some (plan_refusals l s plan) ≡ None
    → IsRowStep op serial (Begin plan) (row_of s.blocks block)
    (row_of (begin_plan l s serial plan).blocks block)
begin_step-row l op serial s plan block low shape e =
    rw (begin-row l s serial plan block low shape) (by_wish _ refl)
  where
    by_wish : (o : Option Wish) → wish_of plan block ≡ o
        → IsRowStep op serial (Begin plan) (row_of s.blocks block)
        (begun_row serial o (row_of s.blocks block))
    by_wish None is = row_stays op serial _ _ _ refl
    by_wish (Some wish) is = record {
      kept =
          λ mine stays. absurd (both_ways (is_claimed_by op (row_of s.blocks block)) (no_claim op _
          (without_claim (row_of s.blocks block) (plan_free l s plan block wish e is))) mine);
      free = λ unclaimed ne. claims_it op serial (row_of s.blocks block) wish ne;
    }

-- a row that two operations claim shows that they are one
one_claim : (op other : ℕ) (claim : Option Claim) → option_map_or (λ c. c.op == op) claim false ≡ true
    → option_map_or (λ c. c.op == other) claim false ≡ true → other ≡ op
one_claim op other None e f = cc
one_claim op other (Some claim) e f = sym (eqb-true claim.op other f) ∙ eqb-true claim.op op e

no_end : (op other : ℕ) → other ≡ op → (other == op) ≡ false → ⊥
no_end op other same e = absurd (both_ways (other == op) e (eq-eqb other op same))

-- what an operation that ends makes of its own rows has no claim, so no other row changes
ended_row : (op other serial : ℕ) (event : Event) (old new : Row) → ends op event ≡ (other == op)
    → new.claim ≡ None → (b : Bool) → is_claimed_by other old ≡ b
    → IsRowStep op serial event old (cond b new old)
ended_row op other serial event old new is none false e = row_stays op serial event old old refl
ended_row op other serial event old new is none true e = record {
  kept = λ mine stays. absurd (no_end op other (one_claim op other _ mine e) (sym is ∙ stays));
  free = λ unclaimed ne. no_claim op _ none;
}

wished_claim : (wish : Wish) → (wished_row wish).claim ≡ None
wished_claim OffWish = refl
wished_claim _ = refl

pub released_claim : (row : Row) → (released_row row).claim ≡ None
released_claim row = elim (cases_Bool (is_going row)) [ inl e ↦ rw e | inr e ↦ rw e ]

-- a row that is claimed has a claim with that operation's number
claimed_some : (op : ℕ) (claim : Option Claim) → option_map_or (λ c. c.op == op) claim false ≡ true
    → (c : Claim) × (claim ≡ Some c)
claimed_some op None e = cc
claimed_some op (Some c) e = (c, refl)

pub committed_claim : (op : ℕ) (row : Row) → is_claimed_by op row ≡ true → (committed_row row).claim ≡ None
committed_claim op row mine =
    let c = claimed_some op _ mine in
    rw c.1 (wished_claim _)

ended_committed : (op other serial : ℕ) (old : Row) (b : Bool) → is_claimed_by other old ≡ b
    → IsRowStep op serial (Commit other) old (cond b (committed_row old) old)
ended_committed op other serial old false e = row_stays op serial _ old old refl
ended_committed op other serial old true e =
    ended_row op other serial _ old _ refl (committed_claim other old e) true e

pub commit_step-row : (l : LayoutParts) (op serial other : ℕ) (s : Memory) (block : ℕ) → block < l.blocks
    → length s.blocks.rows ≡ l.blocks
    → IsRowStep op serial (Commit other) (row_of s.blocks block)
    (row_of (commit_blocks l s other).blocks block)
commit_step-row l op serial other s block low shape =
    rw (commit-row l s other block low shape) (ended_committed op other serial _ _ refl)

pub cancel_step-row : (l : LayoutParts) (op serial other : ℕ) (s : Memory) (block : ℕ) → block < l.blocks
    → length s.blocks.rows ≡ l.blocks
    → IsRowStep op serial (Cancel other) (row_of s.blocks block)
    (row_of (release_blocks l s other).blocks block)
cancel_step-row l op serial other s block low shape =
    rw (release-row l s other block low shape)
    (ended_row op other serial (Cancel other) (row_of s.blocks block) (released_row (row_of s.blocks block))
    refl (released_claim (row_of s.blocks block)) (is_claimed_by other (row_of s.blocks block)) refl)
