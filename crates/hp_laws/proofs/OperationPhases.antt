-- The rows of an operation's blocks, from its Begin to its end.
use Rattle.hp_laws.proofs.OfflineNet.{step_performed}
use Rattle.std.proofs.Common.{◌≡◌, ◌≢◌, ℕ, zero, suc, ◌<◌, ◌≤◌, List, [], ◌∷◌, drop, get_or, true, false, cond, Option, Some, None, slice_get, refl, sym, subst, ◌∙◌, arith, ◌⊎◌, inl, inr, IfSome, eq-eqb, ◌==◌}
use Rattle.std.specs.Prelude.{nat_le}
use Rattle.std.specs.List.{AllByRecursion, list_any}
use Rattle.std.proofs.lemmas.Bool.{both_ways, cases_Bool, leb-false, ne_eqb, not-false, or_left, or_parts, or_right, or_from}
use Rattle.hp_units.specs.declared.plans.Item.{Item}
use Rattle.hp_units.specs.declared.rows.Claim.{Claim}
use Rattle.hp_units.specs.declared.rows.Row.{Row}
use Rattle.hp_units.specs.declared.rows.State.{State}
use Rattle.hp_units.specs.declared.rows.State.TheVariants.{Offline as OfflineState, Online as OnlineState}
use Rattle.hp_units.specs.declared.rows.Wish.{Wish}
use Rattle.hp_units.specs.declared.rows.Wish.TheVariants.{Off as OffWish, Normal as NormalWish, Movable as MovableWish}
use Rattle.hp_units.specs.LayoutParts.{LayoutParts, IsLayout}
use Rattle.hp_units.specs.Choices.{first_some}
use Rattle.hp_units.specs.Memory.{Memory, offline_row, row_of}
use Rattle.hp_units.specs.FreeAreas.{is_on}
use Rattle.hp_units.specs.Refusals.{event_refusals, first_repeated, plan_refusals}
use Rattle.hp_units.specs.Rows.{begin_plan, claimed_row, commit_blocks, is_claimed, is_claimed_by, is_going_state, is_live, is_offline, is_offline_state, is_online_state, release_blocks, wish_of}
use Rattle.hp_units.specs.Step.{step}
use Rattle.hp_units.specs.History.{is_refused, run}
use Rattle.hp_units.specs.Placement.{IsWellPlaced}
use Rattle.hp_laws.specs.Operations.{ends, wished_row}
use Rattle.hp_laws.proofs.Names.{Record, Event, Twice, Begin, Commit, Cancel}
use Rattle.hp_laws.proofs.Claims.{MayClaim, plan_claims}
use Rattle.hp_laws.proofs.Options.{map_none, cond_none}
use Rattle.hp_laws.proofs.EventSteps.{not_there, step-placed, then_none}
use Rattle.hp_laws.proofs.OwnedContents.{all_none}
use Rattle.hp_laws.proofs.OperationRows.{begin-row, commit-row, committed_row, release-row, released_row, row_with}
use Rattle.hp_laws.proofs.OperationSteps.{IsOver, claimed_low, step-ends, step-over, step-row}
use Rattle.hp_laws.proofs.OperationEvents.{plan_free}

-- ---- each item of a list

pub each_map : {X : Type 0} (P Q : X → Type 0) → ((x : X) → P x → Q x) → (xs : List X) → AllByRecursion P xs
    → AllByRecursion Q xs
each_map P Q f [] h = tt
each_map P Q f (x ∷ xs) h = (f x h.0, each_map P Q f xs h.1)

pub each_both : {X : Type 0} (P Q R : X → Type 0) → ((x : X) → P x → Q x → R x) → (xs : List X)
    → AllByRecursion P xs → AllByRecursion Q xs → AllByRecursion R xs
each_both P Q R f [] h k = tt
each_both P Q R f (x ∷ xs) h k = (f x h.0 k.0, each_both P Q R f xs h.1 k.1)

-- what holds of each item from a place on
pub each_from : {X : Type 0} (P : X → Type 0) (xs : List X) (k : ℕ)
    → ((j : ℕ) (x : X) → k ≤ j → slice_get xs j ≡ Some x → P x) → AllByRecursion P (drop k xs)
each_from P [] zero h = tt
each_from P [] (suc k) h = tt
each_from P (x ∷ xs) zero h =
    (h zero x (omega arith) refl, each_from P xs zero (λ j y le e. h (suc j) y (omega arith) e))
each_from P (x ∷ xs) (suc k) h = each_from P xs k (λ j y le e. h (suc j) y (omega arith) e)

-- ---- the items of a plan that isn't refused

-- no block of the plan stood earlier
unseen : (before : List ℕ) (plan : List Item) (block : ℕ) → first_repeated before plan ≡ None
    → is_on block before ≡ true → AllByRecursion (λ item. item.block ≢ block) plan
unseen before [] block e on = tt
unseen before (item ∷ plan) block e on =
    let fresh = cond_none _ _ _ e in (
      λ same. both_ways (is_on item.block before) fresh.0 (rw same on),
      unseen _ plan block fresh.1 (or_right _ _ on),
    )

-- so each item is the one that is found for its block
found_wishes : (before : List ℕ) (plan : List Item) → first_repeated before plan ≡ None
    → AllByRecursion (λ item. wish_of plan item.block ≡ Some item.wish) plan
found_wishes before [] e = tt
found_wishes before (item ∷ plan) e =
    let fresh = cond_none _ _ _ e in
    let same : (item.block == item.block) ≡ true = eq-eqb item.block item.block refl in (
      rw same,
      each_both (λ (i : Item). i.block ≢ item.block) (λ (i : Item). wish_of plan i.block ≡ Some i.wish)
          (λ (i : Item). wish_of (item ∷ plan) i.block ≡ Some i.wish)
          (λ other ne is. rw (ne_eqb item.block other.block (λ e. ne (sym e))) is) plan
          (unseen _ plan _ fresh.1 (or_left _ _ same))
          (found_wishes (item.block ∷ before) plan fresh.1),
    )

-- the blocks of a plan that names none past the last
within : (l : LayoutParts) (plan : List Item) → list_any (λ item. nat_le l.blocks item.block) plan ≡ false
    → AllByRecursion (λ item. item.block < l.blocks) plan
within l [] e = tt
within l (item ∷ plan) e =
    let parts = or_parts (nat_le l.blocks item.block) _ e in
    (leb-false l.blocks item.block parts.0, within l plan parts.1)

-- ---- an operation that began and has not ended

-- the row of an item's block is the one that the Begin found there, with the operation's claim
pub record IsBegun (op : ℕ) (old s : Memory) (item : Item) : Type 0 where
  pub free : is_claimed (row_of old.blocks item.block) ≡ false
  pub may : MayClaim (row_of old.blocks item.block) item.wish
  pub held : row_of s.blocks item.block ≡ claimed_row (row_of old.blocks item.block) op item.wish

abbrev pub AreBegun : ℕ → Memory → Memory → List Item → Type 0
AreBegun op old s plan = AllByRecursion (IsBegun op old s) plan

-- a Begin claims each block of its plan
pub plan-begun : (l : LayoutParts) (s : Memory) (op : ℕ) (plan : List Item) → IsWellPlaced l s
    → first_some (plan_refusals l s plan) ≡ None → AreBegun op s (begin_plan l s op plan) plan
plan-begun l s op plan p e =
    let none = all_none (plan_refusals l s plan) e in
    each_both (λ (item : Item). wish_of plan item.block ≡ Some item.wish)
    (λ (item : Item). item.block < l.blocks) (IsBegun op s (begin_plan l s op plan)) begun plan
    (found_wishes [] plan (map_none Twice (first_repeated [] plan) none.1.1.0))
    (within l plan (then_none _ _ none.1.0))
  where
    begun : (item : Item) → wish_of plan item.block ≡ Some item.wish → item.block < l.blocks
        → IsBegun op s (begin_plan l s op plan) item
    begun item is low = record {
      free = plan_free l s plan _ _ e is;
      may =
          subst (λ (o : Option Wish). IfSome o (MayClaim (row_of s.blocks item.block))) is
          (plan_claims l s plan e _);
      held = rw (begin-row l s op plan _ low p.in_order.shape.rows, is);
    }

claims : (op : ℕ) (row : Row) (wish : Wish) → is_claimed_by op (claimed_row row op wish) ≡ true
claims op row OffWish = eq-eqb op op refl
claims op row NormalWish = eq-eqb op op refl
claims op row MovableWish = eq-eqb op op refl

begun_claimed : (op : ℕ) (old s : Memory) (item : Item) → IsBegun op old s item
    → is_claimed_by op (row_of s.blocks item.block) ≡ true
begun_claimed op old s item h = rw h.held (claims op (row_of old.blocks item.block) item.wish)

-- a step that doesn't end the operation leaves its rows
item-held : (l : LayoutParts) (s : Memory) (serial cpu : ℕ) (event : Event) (op : ℕ) (old : Memory)
    (item : Item)
    → IsWellPlaced l s → ends op event ≡ false → IsBegun op old s item
    → IsBegun op old (step l s serial cpu event).memory item
item-held l s serial cpu event op old item p stays h =
    let mine : is_claimed_by op (row_of s.blocks item.block) ≡ true = begun_claimed op old s item h in
    record {
      free = h.free;
      may = h.may;
      held =
          (step-row l s serial cpu event op _ p (claimed_low l s op item.block p mine)).kept mine stays
          ∙ h.held;
    }

step-held : (l : LayoutParts) (s : Memory) (serial cpu : ℕ) (event : Event) (op : ℕ) (old : Memory)
    (plan : List Item)
    → IsWellPlaced l s → ends op event ≡ false → AreBegun op old s plan
    → AreBegun op old (step l s serial cpu event).memory plan
step-held l s serial cpu event op old plan p stays h =
    each_map _ _ (λ item k. item-held l s serial cpu event op old item p stays k) plan h

-- and so do steps one after another
pub run-held : (l : LayoutParts) (s : Memory) (op : ℕ) (old : Memory) (plan : List Item) (steps : List Record)
    → IsLayout l → IsWellPlaced l s → AllByRecursion (λ r. ends op r.event ≡ false) steps
    → AreBegun op old s plan → AreBegun op old (run l s steps) plan
unfolding run
run-held l s op old plan [] layout p stays h = h
run-held l s op old plan (r ∷ steps) layout p stays h =
    run-held l (step l s r.serial r.cpu r.event).memory op old plan steps layout
    (step-placed l s r.serial r.cpu r.event layout p) stays.1
    (step-held l s r.serial r.cpu r.event op old plan p stays.0 h)

-- ---- an operation that began: it holds its rows still, or it is over

abbrev pub HoldsOrIsOver : ℕ → Memory → Memory → List Item → Type 0
HoldsOrIsOver op old s plan = AreBegun op old s plan ⊎ IsOver op s

step-phase : (l : LayoutParts) (s : Memory) (serial cpu : ℕ) (event : Event) (op : ℕ) (old : Memory)
    (plan : List Item)
    → IsLayout l → IsWellPlaced l s → serial ≢ op → HoldsOrIsOver op old s plan
    → HoldsOrIsOver op old (step l s serial cpu event).memory plan
step-phase l s serial cpu event op old plan layout p ne (inr over) =
    inr (step-over l s serial cpu event op layout p ne over)
step-phase l s serial cpu event op old plan layout p ne (inl begun) = elim (cases_Bool (ends op event)) [
  | inl e ↦ elim (step-ends l s serial cpu event op layout p e) [
    | inl same ↦ inl (subst (λ (m : Memory). AreBegun op old m plan) (sym same) begun)
    | inr over ↦ inr over
  ]
  | inr stays ↦ inl (step-held l s serial cpu event op old plan p stays begun)
]

pub run-phase : (l : LayoutParts) (s : Memory) (op : ℕ) (old : Memory) (plan : List Item)
    (steps : List Record)
    → IsLayout l → IsWellPlaced l s → AllByRecursion (λ r. r.serial ≢ op) steps
    → HoldsOrIsOver op old s plan → HoldsOrIsOver op old (run l s steps) plan
unfolding run
run-phase l s op old plan [] layout p others h = h
run-phase l s op old plan (r ∷ steps) layout p others h =
    run-phase l (step l s r.serial r.cpu r.event).memory op old plan steps layout
    (step-placed l s r.serial r.cpu r.event layout p) others.1
    (step-phase l s r.serial r.cpu r.event op old plan layout p others.0 h)

-- ---- a Begin, a Commit and a Cancel that aren't refused

pub record IsBeginOf (l : LayoutParts) (s t : Memory) (serial : ℕ) (plan : List Item) : Type 0 where
  pub memory : t ≡ begin_plan l s serial plan
  pub fine : first_some (plan_refusals l s plan) ≡ None

pub begin-good : (l : LayoutParts) (s : Memory) (serial cpu : ℕ) (plan : List Item)
    → is_refused (step l s serial cpu (Begin plan)).reply ≡ false
    → IsBeginOf l s (step l s serial cpu (Begin plan)).memory serial plan
begin-good l s serial cpu plan good =
    let done = step_performed l s serial cpu _ good in
    record { memory = done.memory; fine = done.free }

pub record IsEndOf (s t after : Memory) (op : ℕ) : Type 0 where
  pub memory : t ≡ after
  pub live : is_live s.blocks op ≡ true

pub commit-good : (l : LayoutParts) (s : Memory) (serial cpu op : ℕ)
    → is_refused (step l s serial cpu (Commit op)).reply ≡ false
    → IsEndOf s (step l s serial cpu (Commit op)).memory (commit_blocks l s op) op
commit-good l s serial cpu op good =
    let done = step_performed l s serial cpu _ good in
    record {
      memory = done.memory;
      live = not-false _ (then_none _ _ (all_none (event_refusals l s cpu (Commit op)) done.free).0);
    }

pub cancel-good : (l : LayoutParts) (s : Memory) (serial cpu op : ℕ)
    → is_refused (step l s serial cpu (Cancel op)).reply ≡ false
    → IsEndOf s (step l s serial cpu (Cancel op)).memory (release_blocks l s op) op
cancel-good l s serial cpu op good =
    let done = step_performed l s serial cpu _ good in
    record {
      memory = done.memory;
      live = not-false _ (then_none _ _ (all_none (event_refusals l s cpu (Cancel op)) done.free).0);
    }

-- an operation that is live isn't over
pub live_holds : (op : ℕ) (old s : Memory) (plan : List Item) → is_live s.blocks op ≡ true
    → HoldsOrIsOver op old s plan → AreBegun op old s plan
live_holds op old s plan live (inl begun) = begun
live_holds op old s plan live (inr over) = absurd (both_ways (is_live s.blocks op) (dead _ over) live)
  where
    dead : (rows : List Row) → ((block : ℕ) → is_claimed_by op (get_or rows block offline_row) ≡ false)
        → list_any (is_claimed_by op) rows ≡ false
    dead [] none = refl
    dead (row ∷ rows) none = or_from _ _ (none zero) (dead rows (λ block. none (suc block)))

-- ---- the rows that an operation's end leaves

granted : (op : ℕ) (old : Row) (wish : Wish)
    → cond (is_claimed_by op (claimed_row old op wish)) (committed_row (claimed_row old op wish))
    (claimed_row old op wish) ≡ wished_row wish
granted op old OffWish = rw (eq-eqb op op refl)
granted op old NormalWish = rw (eq-eqb op op refl)
granted op old MovableWish = rw (eq-eqb op op refl)

-- a Commit gives each block its wish
pub commit-grants : (l : LayoutParts) (s : Memory) (op : ℕ) (old : Memory) (plan : List Item)
    → IsWellPlaced l s → AreBegun op old s plan
    → AllByRecursion (λ item. row_of (commit_blocks l s op).blocks item.block ≡ wished_row item.wish) plan
commit-grants l s op old plan p begun =
    each_map _ (λ item. row_of (commit_blocks l s op).blocks item.block ≡ wished_row item.wish) one plan begun
  where
    one : (item : Item) → IsBegun op old s item
        → row_of (commit_blocks l s op).blocks item.block ≡ wished_row item.wish
    one item h =
        rw (commit-row l s op _ (claimed_low l s op item.block p (begun_claimed op old s item h))
        p.in_order.shape.rows) (rw h.held (granted op (row_of old.blocks item.block) item.wish))

online_only : (state : State) → is_online_state state ≡ true → OnlineState ≡ state
online_only OnlineState e = refl
online_only _ e = cc

offline_still : (state : State) → is_offline_state state ≡ true → is_going_state state ≡ false
offline_still OfflineState e = refl
offline_still _ e = cc

back_offline : (row : Row) (c : Option Claim) → is_offline row ≡ true → row.claim ≡ None
    → released_row (row_with row.state row.zone c) ≡ row
back_offline row c off none = rw (offline_still _ off, ← none)

given_back : (op : ℕ) (old : Row) (wish : Wish) → MayClaim old wish → old.claim ≡ None
    → released_row (claimed_row old op wish) ≡ old
given_back op old OffWish may none = rw (online_only _ may, ← none)
given_back op old NormalWish may none =
    back_offline old (Some (record { op = op; wish = NormalWish })) may none
given_back op old MovableWish may none =
    back_offline old (Some (record { op = op; wish = MovableWish })) may none

-- a Cancel gives each block the row that its Begin found
pub cancel-gives_back : (l : LayoutParts) (s : Memory) (op : ℕ) (old : Memory) (plan : List Item)
    → IsWellPlaced l s → AreBegun op old s plan
    → AllByRecursion (λ item. row_of (release_blocks l s op).blocks item.block ≡ row_of old.blocks item.block)
    plan
cancel-gives_back l s op old plan p begun =
    each_map _
    (λ item. row_of (release_blocks l s op).blocks item.block ≡ row_of old.blocks item.block) one plan begun
  where
    one : (item : Item) → IsBegun op old s item
        → row_of (release_blocks l s op).blocks item.block ≡ row_of old.blocks item.block
    one item h =
        rw (release-row l s op _ (claimed_low l s op item.block p (begun_claimed op old s item h))
        p.in_order.shape.rows) (rw (begun_claimed op old s item h, h.held) (given_back op (row_of old.blocks
        item.block) item.wish h.may (not_there _ h.free)))
