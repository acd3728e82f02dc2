-- An operation begins, and is released.
use Rattle.std.proofs.Common.{◌≡◌, ℕ, zero, suc, ◌+◌, ◌<◌, ◌≤◌, List, get_or, set, Bool, true, false, not, cond, Option, Some, None, refl, ◌∙◌, subst, arith, IfSome, IsSome, eqb-true, ◌==◌, ◌&&◌, inl, inr}
use Rattle.std.specs.Prelude.{find, filter, fold, unwrap_or}
use Rattle.std.specs.List.{range_with_len}
use Rattle.std.specs.Option.{option_map, option_map_or}
use Rattle.std.proofs.lemmas.Bool.{not-false, or_left, cases_Bool}
use Rattle.std.proofs.lemmas.List.{get_or-set_other}
use Rattle.hp_units.specs.declared.plans.Item.{Item}
use Rattle.hp_units.specs.declared.rows.Claim.{Claim}
use Rattle.hp_units.specs.declared.rows.Row.{Row}
use Rattle.hp_units.specs.declared.rows.State.{State}
use Rattle.hp_units.specs.declared.rows.State.TheVariants.{Offline as OfflineState, Online as OnlineState, Going as GoingState}
use Rattle.hp_units.specs.declared.rows.Wish.{Wish}
use Rattle.hp_units.specs.declared.rows.Wish.TheVariants.{Off as OffWish, Normal as NormalWish, Movable as MovableWish}
use Rattle.hp_units.specs.declared.rows.Zone.{Zone}
use Rattle.hp_units.specs.declared.rows.Zone.TheVariants.{Normal as NormalZone}
use Rattle.hp_units.specs.LayoutParts.{LayoutParts, IsLayout}
use Rattle.hp_units.specs.Choices.{first_some}
use Rattle.hp_units.specs.Memory.{Memory, row_of, offline_row}
use Rattle.hp_units.specs.Refusals.{plan_refusals}
use Rattle.hp_units.specs.Rows.{begin_block, begin_plan, claim_block, is_claimed_by, is_going, is_going_state, is_off, is_offline, is_offline_state, is_online, is_online_state, online_again, release_block, release_blocks, wish_of, with_block_row}
use Rattle.hp_units.specs.Placement.{IsRowOf, IsWellPlaced, is_unplugged, wishes_off}
use Rattle.hp_laws.proofs.Options.{found_fails, found_passes, map_none}
use Rattle.hp_laws.proofs.OwnedContents.{all_none}
use Rattle.hp_laws.proofs.Rows.{unplugged-placed, unplugged_stays}
use Rattle.hp_laws.proofs.Isolations.{moved_block-placed}

-- ---- a state in the middle of a fold over the blocks

-- the rows from a block on are as they were at first
pub record IsUnchangedFrom (l : LayoutParts) (s : Memory) (from : ℕ) (t : Memory) : Type 0 where
  pub placed : IsWellPlaced l t
  pub later : (block : ℕ) → from ≤ block → row_of t.blocks block ≡ row_of s.blocks block

pub unchanged_next : (l : LayoutParts) (s : Memory) (from : ℕ) (t : Memory) → IsUnchangedFrom l s from t
    → IsUnchangedFrom l s (from + 1) t
unchanged_next l s from t h = record { placed = h.placed; later = λ block above. h.later block (omega arith) }

pub later_rows : (rows old : List Row) (from : ℕ) (row : Row)
    → ((block : ℕ) → from ≤ block → get_or rows block offline_row ≡ get_or old block offline_row)
    → (block : ℕ) → from + 1 ≤ block
    → get_or (set rows from row) block offline_row ≡ get_or old block offline_row
later_rows rows old from row h block above =
    get_or-set_other rows from block row offline_row (λ same. absurd (omega arith)) ∙ h block (omega arith)

-- what each block that passes keeps, from its number to the next, holds of all
pub fold_blocks : (Q : ℕ → Memory → Type 0) (f : Memory → ℕ → Memory) (p : ℕ → Bool) (from count : ℕ)
    (t : Memory)
    → ((block : ℕ) (u : Memory) → block < from + count → p block ≡ true → Q block u
    → Q (block + 1) (f u block))
    → ((block : ℕ) (u : Memory) → Q block u → Q (block + 1) u)
    → Q from t → Q (from + count) (fold f t (filter p (range_with_len from count)))
fold_blocks Q f p from zero t acts skips h = subst (λ (n : ℕ). Q n t) (omega arith) h
fold_blocks Q f p from (suc count) t acts skips h =
    let rest : (u : Memory) → Q (from + 1) u
    → Q (from + 1 + count) (fold f u (filter p (range_with_len (from + 1) count))) =
    λ u. fold_blocks Q f p (from + 1) count u (λ block v below. acts block v (omega (arith, below))) skips in
    let sum : from + suc count ≡ from + 1 + count = omega arith in
    elim (cases_Bool (p from)) [
      | inl e ↦ rw (sum, e) (rest (f t from) (acts from t (omega arith) e h))
      | inr e ↦ rw (sum, e) (rest t (skips from t h))
    ]

-- ---- zones of rows

pub some_zone : (zone : Option Zone) → IsSome zone → zone ≡ Some (unwrap_or zone NormalZone)
some_zone None h = absurd (cc h)
some_zone (Some zone) h = refl

online_zone : (state : State) (zone : Option Zone) (claim : Option Claim) → is_online_state state ≡ true
    → IsRowOf state zone claim → IsSome zone
online_zone OnlineState zone claim e h = h.0
online_zone _ zone claim e h = cc

pub going_zone : (state : State) (zone : Option Zone) (claim : Option Claim) → is_going_state state ≡ true
    → IsRowOf state zone claim → IsSome zone
going_zone GoingState zone claim e h = h.0
going_zone _ zone claim e h = cc

-- an offline row may carry any claim that isn't of wish Off, or none
offline_claim : (state : State) (zone : Option Zone) (claim other : Option Claim)
    → is_offline_state state ≡ true → wishes_off other ≡ false → IsRowOf state zone claim
    → IsRowOf state zone other
offline_claim OfflineState zone claim other e still h = (h.0, still)
offline_claim _ zone claim other e still h = cc

-- another claim on an offline row
reclaimed : (l : LayoutParts) (s : Memory) (block : ℕ) (claim : Option Claim) → IsWellPlaced l s
    → block < l.blocks → is_offline (row_of s.blocks block) ≡ true → wishes_off claim ≡ false
    → IsWellPlaced l (with_block_row s block (record (row_of s.blocks block) { claim = claim }))
reclaimed l s block claim p low off still =
    let row : Row = row_of s.blocks block in
    let gone : is_unplugged row ≡ true = or_left (is_offline row) _ off in
    unplugged-placed l s block (record row { claim = claim }) p gone low (offline_claim _ _
    _ claim off still (p.in_order.rows block)) (unplugged_stays _ gone) gone

-- ---- an operation claims a block

abbrev pub MayClaim : Row → Wish → Type 0
MayClaim row OffWish = is_online row ≡ true
MayClaim row NormalWish = is_offline row ≡ true
MayClaim row MovableWish = is_offline row ≡ true

claim_block-placed : (l : LayoutParts) (op : ℕ) (s : Memory) (block : ℕ) (wish : Wish) → IsLayout l
    → IsWellPlaced l s → block < l.blocks → MayClaim (row_of s.blocks block) wish
    → IsWellPlaced l (claim_block l op s block wish)
claim_block-placed l op s block OffWish layout p low may =
    let row : Row = row_of s.blocks block in
    let has : IsSome row.zone = online_zone _ _ _ may (p.in_order.rows block) in
    moved_block-placed l s block _ true _ layout p low
    (some_zone _ has) (some_zone _ has) (has, refl) refl refl
claim_block-placed l op s block NormalWish layout p low may =
    reclaimed l s block (Some (record { op = op; wish = NormalWish })) p low may refl
claim_block-placed l op s block MovableWish layout p low may =
    reclaimed l s block (Some (record { op = op; wish = MovableWish })) p low may refl

claim_block-next : (l : LayoutParts) (s : Memory) (op : ℕ) (t : Memory) (block : ℕ) (wish : Wish) → IsLayout l
    → block < l.blocks → MayClaim (row_of s.blocks block) wish → IsUnchangedFrom l s block t
    → IsUnchangedFrom l s (block + 1) (claim_block l op t block wish)
claim_block-next l s op t block wish layout low may h = record {
  placed =
      claim_block-placed l op t block wish layout h.placed low
      (rw (h.later block (omega arith)) may);
  later = rows wish;
}
  where
    rows : (wish : Wish) (other : ℕ) → block + 1 ≤ other
        → row_of (claim_block l op t block wish).blocks other ≡ row_of s.blocks other
    rows OffWish = later_rows _ _ block _ h.later
    rows _ = later_rows _ _ block _ h.later

begin_all : (l : LayoutParts) (s : Memory) (op : ℕ) (plan : List Item) (t : Memory) (from count : ℕ)
    → IsLayout l → from + count ≤ l.blocks
    → ((block : ℕ) → IfSome (wish_of plan block) (MayClaim (row_of s.blocks block)))
    → IsUnchangedFrom l s from t → IsWellPlaced l (fold (begin_block l op plan) t (range_with_len from count))
begin_all l s op plan t from zero layout low may h = h.placed
begin_all l s op plan t from (suc count) layout low may h =
    begin_all l s op plan (begin_block l op plan t from) (from + 1) count layout (omega arith) may
    (by_wish _ (may from))
  where
    by_wish : (o : Option Wish) → IfSome o (MayClaim (row_of s.blocks from))
        → IsUnchangedFrom l s (from + 1) (option_map_or (claim_block l op t from) o t)
    by_wish None m = unchanged_next l s from t h
    by_wish (Some wish) m = claim_block-next l s op t from wish layout (omega arith) m h

may_claim : (row : Row) (wish : Wish) → (is_off wish && not (is_online row)) ≡ false
    → (not (is_off wish) && not (is_offline row)) ≡ false → MayClaim row wish
may_claim row OffWish e f = not-false (is_online row) e
may_claim row _ e f = not-false (is_offline row) f

-- what a plan that isn't refused wishes may be claimed
pub plan_claims : (l : LayoutParts) (s : Memory) (plan : List Item)
    → first_some (plan_refusals l s plan) ≡ None → (block : ℕ)
    → IfSome (wish_of plan block) (MayClaim (row_of s.blocks block))
plan_claims l s plan e block =
    let none = all_none (plan_refusals l s plan) e in
    by_item (find (λ item. item.block == block) plan) refl (map_none _
    (find (λ item. is_off item.wish && not (is_online (row_of s.blocks item.block))) plan) none.1.1.1.1.0)
    (map_none _ (find (λ item. not (is_off item.wish) && not (is_offline (row_of s.blocks item.block))) plan)
    none.1.1.1.1.1.0)
  where
    by_item : (o : Option Item) → find (λ item. item.block == block) plan ≡ o
        → find (λ item. is_off item.wish && not (is_online (row_of s.blocks item.block))) plan ≡ None
        → find (λ item. not (is_off item.wish) && not (is_offline (row_of s.blocks item.block))) plan ≡ None
        → IfSome (option_map (λ item. item.wish) o) (MayClaim (row_of s.blocks block))
    by_item None is f g = tt
    by_item (Some item) is f g =
        rw (← (eqb-true item.block block (found_passes (λ i. i.block == block) plan item is)))
        (may_claim (row_of s.blocks item.block) item.wish (found_fails (λ i. is_off i.wish && not (is_online
        (row_of s.blocks i.block))) (λ i. i.block == block) plan item f is) (found_fails (λ i. not (is_off
        i.wish) && not (is_offline (row_of s.blocks i.block))) (λ i. i.block == block) plan item g is))

pub begin-placed : (l : LayoutParts) (s : Memory) (op : ℕ) (plan : List Item) → IsLayout l → IsWellPlaced l s
    → first_some (plan_refusals l s plan) ≡ None → IsWellPlaced l (begin_plan l s op plan)
unfolding begin_plan
begin-placed l s op plan layout p e =
    begin_all l s op plan s 0 l.blocks layout (omega arith) (plan_claims l s plan e)
    (record { placed = p; later = λ block above. refl })

-- ---- an operation is released

-- a claimed row that isn't going is offline
pub claimed_offline : (op : ℕ) (state : State) (zone : Option Zone) (claim : Option Claim)
    → is_going_state state ≡ false → option_map_or (λ c. c.op == op) claim false ≡ true
    → IsRowOf state zone claim
    → is_offline_state state ≡ true
claimed_offline op OfflineState zone claim e f h = refl
claimed_offline op _ zone (Some claim) e f h = absurd (cc h.1)
claimed_offline op _ zone _ e f h = cc

release_block-placed : (l : LayoutParts) (op : ℕ) (s : Memory) (block : ℕ) → IsLayout l → IsWellPlaced l s
    → block < l.blocks → is_claimed_by op (row_of s.blocks block) ≡ true
    → IsWellPlaced l (release_block l s block)
release_block-placed l op s block layout p low mine = by_state _ refl
  where
    row : Row
    row = row_of s.blocks block

    by_state : (b : Bool) → is_going row ≡ b
        → IsWellPlaced l
        (cond b (online_again l s block) (with_block_row s block (record row { claim = None })))
    by_state true e =
        let has : IsSome row.zone = going_zone _ _ _ e (p.in_order.rows block) in
        moved_block-placed l s block _ false _ layout p low
        (some_zone _ has) (some_zone _ has) (has, refl) refl refl
    by_state false e =
        reclaimed l s block None p low (claimed_offline op _ _ _ e mine (p.in_order.rows block)) refl

release_block-next : (l : LayoutParts) (op : ℕ) (s t : Memory) (block : ℕ) → IsLayout l → block < l.blocks
    → is_claimed_by op (row_of s.blocks block) ≡ true → IsUnchangedFrom l s block t
    → IsUnchangedFrom l s (block + 1) (release_block l t block)
release_block-next l op s t block layout low mine h = record {
  placed =
      release_block-placed l op t block layout h.placed low
      (rw (h.later block (omega arith)) mine);
  later = rows _;
}
  where
    rows : (b : Bool) (other : ℕ) → block + 1 ≤ other
        → row_of (cond b (online_again l t block) (with_block_row t block
        (record (row_of t.blocks block) { claim = None }))).blocks other ≡ row_of s.blocks other
    rows true = later_rows _ _ block _ h.later
    rows false = later_rows _ _ block _ h.later

pub release-placed : (l : LayoutParts) (s : Memory) (op : ℕ) → IsLayout l → IsWellPlaced l s
    → IsWellPlaced l (release_blocks l s op)
unfolding release_blocks
release-placed l s op layout p =
    (fold_blocks _ _ (λ block. is_claimed_by op (row_of s.blocks block)) 0 _ s
    (λ block u low mine h. release_block-next l op s u block layout (omega (arith, low)) mine h)
    (unchanged_next l s) (record { placed = p; later = λ block above. refl })).placed
