-- What the Begin of an operation leaves: its claims are those of its plan, and no kernel's block
-- starts in a block that is to go.
use Rattle.std.proofs.Common.{◌≡◌, ◌≢◌, ℕ, zero, suc, List, [], ◌∷◌, get_or, set, Bool, true, false, cond, Option, Some, None, map, refl, ap, sym, subst, ◌∙◌, ◌⊎◌, inl, inr, IfSome, eqb-true, ◌==◌}
use Rattle.std.specs.Prelude.{find, fold, is_some}
use Rattle.std.specs.Option.{option_map, option_map_or}
use Rattle.std.proofs.lemmas.Option.{same_Some}
use Rattle.hp_units.specs.declared.plans.Item.{Item}
use Rattle.hp_units.specs.declared.rows.Claim.{Claim}
use Rattle.hp_units.specs.declared.rows.Row.{Row}
use Rattle.hp_units.specs.declared.rows.State.{State}
use Rattle.hp_units.specs.declared.rows.State.TheVariants.{Going as GoingState}
use Rattle.hp_units.specs.declared.rows.Wish.{Wish}
use Rattle.hp_units.specs.declared.rows.Wish.TheVariants.{Off as OffWish, Normal as NormalWish, Movable as MovableWish}
use Rattle.hp_units.specs.declared.rows.Zone.{Zone}
use Rattle.hp_units.specs.Choices.{first_some}
use Rattle.hp_units.specs.LayoutParts.{LayoutParts, IsLayout}
use Rattle.hp_units.specs.Arithmetic.{all_blocks, block_of, frames_of_block}
use Rattle.hp_units.specs.Memory.{Memory, kernel_order, offline_row, row_of}
use Rattle.hp_units.specs.Refusals.{kernel_frame_in, plan_refusals}
use Rattle.hp_units.specs.Rows.{begin_block, begin_plan, claim_block, is_going_state, is_off, wish_of}
use Rattle.hp_units.specs.Placement.{IsRowOf, IsWellPlaced}
use Rattle.hp_laws.specs.Consequences.{IsGoingFor}
use Rattle.hp_laws.specs.Offline.{AreHeldBy}
use Rattle.hp_laws.proofs.Options.{found_passes, map_none}
use Rattle.hp_laws.proofs.OwnedContents.{AllNone, all_none}
use Rattle.hp_laws.proofs.EventSteps.{not_there}
use Rattle.hp_laws.proofs.ConsequencesCommits.{block_has, not_found}
use Rattle.hp_laws.proofs.OfflineClaims.{claimed_at}

-- ---- where the claims come from

-- a claim was there before, or comes from the plan
abbrev IsFrom : (op : ℕ) (plan : List Item) (s : Memory) → ℕ → Claim → Type 0
IsFrom op plan s block claim =
    ((row_of s.blocks block).claim ≡ Some claim) ⊎ ((claim.op ≡ op) × (wish_of plan block ≡ Some claim.wish))

-- each claim of a state is
abbrev ClaimsFrom : (op : ℕ) (plan : List Item) (s t : Memory) → Type 0
ClaimsFrom op plan s t =
    (block : ℕ) (claim : Claim) → (row_of t.blocks block).claim ≡ Some claim → IsFrom op plan s block claim

-- a row written, and another
set_cases : (rows : List Row) (i : ℕ) (row : Row) (k : ℕ)
    → (get_or (set rows i row) k offline_row ≡ get_or rows k offline_row)
    ⊎ ((k ≡ i) × (get_or (set rows i row) k offline_row ≡ row))
set_cases (x ∷ xs) zero row zero = inr (refl, refl)
set_cases (x ∷ xs) (suc i) row (suc k) =
    elim (set_cases xs i row k) [ inl e ↦ inl e | inr e ↦ inr (rw e.0, e.1) ]
set_cases _ _ row _ = inl refl

-- of a row that carries the plan's wish
set-from : (op : ℕ) (plan : List Item) (s t : Memory) (block : ℕ) (row : Row) (wish : Wish)
    → wish_of plan block ≡ Some wish → row.claim ≡ Some (record { op = op; wish = wish })
    → ClaimsFrom op plan s t
    → (other : ℕ) (claim : Claim)
    → (get_or (set t.blocks.rows block row) other offline_row).claim ≡ Some claim
    → IsFrom op plan s other claim
set-from op plan s t block row wish is carries h other claim e = elim (set_cases _ block row other) [
  | inl old ↦ h other claim (ap (λ (r : Row). r.claim) (sym old) ∙ e)
  | inr new ↦
      let same : record { op = op; wish = wish } ≡ claim =
      same_Some (record { op = op; wish = wish }) claim
      (sym carries ∙ (ap (λ (r : Row). r.claim) (sym new.1) ∙ e)) in
      inr (
        rw (← same),
        rw (new.0, is) (ap (λ (c : Claim). Some c.wish) same),
      )
]

-- of a block that is claimed
claim-from : (l : LayoutParts) (op : ℕ) (plan : List Item) (s t : Memory) (block : ℕ) (wish : Wish)
    → wish_of plan block ≡ Some wish → ClaimsFrom op plan s t
    → ClaimsFrom op plan s (claim_block l op t block wish)
claim-from l op plan s t block OffWish is h = set-from op plan s t block _ _ is refl h
claim-from l op plan s t block NormalWish is h = set-from op plan s t block _ _ is refl h
claim-from l op plan s t block MovableWish is h = set-from op plan s t block _ _ is refl h

-- of one block of the plan
begin_block-from : (l : LayoutParts) (op : ℕ) (plan : List Item) (s t : Memory) (block : ℕ)
    → ClaimsFrom op plan s t → ClaimsFrom op plan s (begin_block l op plan t block)
begin_block-from l op plan s t block h = by_wish _ refl
  where
    by_wish : (o : Option Wish) → wish_of plan block ≡ o
        → ClaimsFrom op plan s (option_map_or (claim_block l op t block) o t)
    by_wish None e = h
    by_wish (Some wish) e = claim-from l op plan s t block wish e h

-- of one block after another
fold-from : (l : LayoutParts) (op : ℕ) (plan : List Item) (s t : Memory) (blocks : List ℕ)
    → ClaimsFrom op plan s t → ClaimsFrom op plan s (fold (begin_block l op plan) t blocks)
fold-from l op plan s t [] h = h
fold-from l op plan s t (block ∷ blocks) h =
    fold-from l op plan s (begin_block l op plan t block) blocks (begin_block-from l op plan s t block h)

-- of the whole plan
begin-from : (l : LayoutParts) (op : ℕ) (plan : List Item) (s : Memory)
    → ClaimsFrom op plan s (begin_plan l s op plan)
unfolding begin_plan
begin-from l op plan s = fold-from l op plan s s (all_blocks l) (λ block claim e. inl e)

-- ---- the kernel's blocks stay

-- as a block is claimed
claim-kernel : (l : LayoutParts) (op : ℕ) (t : Memory) (block : ℕ) (wish : Wish)
    → (claim_block l op t block wish).kernel ≡ t.kernel
claim-kernel l op t block OffWish = refl
claim-kernel l op t block _ = refl

-- or is not in the plan
begin_block-kernel : (l : LayoutParts) (op : ℕ) (t : Memory) (block : ℕ) (o : Option Wish)
    → (option_map_or (claim_block l op t block) o t).kernel ≡ t.kernel
begin_block-kernel l op t block None = refl
begin_block-kernel l op t block (Some wish) = claim-kernel l op t block wish

-- one block after another
fold-kernel : (l : LayoutParts) (op : ℕ) (plan : List Item) (t : Memory) (blocks : List ℕ)
    → (fold (begin_block l op plan) t blocks).kernel ≡ t.kernel
fold-kernel l op plan t [] = refl
fold-kernel l op plan t (block ∷ blocks) =
    fold-kernel l op plan (begin_block l op plan t block) blocks ∙ begin_block-kernel l op t block _

-- over the whole plan
begin-kernel : (l : LayoutParts) (op : ℕ) (plan : List Item) (s : Memory)
    → (begin_plan l s op plan).kernel ≡ s.kernel
unfolding begin_plan
begin-kernel l op plan s = fold-kernel l op plan s (all_blocks l)

-- ---- no kernel's block starts in a block that is to go

-- what is found passes the test of each, where none of all gives an answer
found_none : {A : Type 0} (f : Item → Option A) (p : Item → Bool) (plan : List Item) (item : Item)
    → AllNone (map f plan) → find p plan ≡ Some item → f item ≡ None
found_none f p [] item none e = cc
found_none f p (x ∷ xs) item none e = by_test (p x) e (found_none f p xs item none.1)
  where
    by_test : (b : Bool) → cond b (Some x) (find p xs) ≡ Some item → (find p xs ≡ Some item → f item ≡ None)
        → f item ≡ None
    by_test true e later = (let same : x ≡ item = cc in rw (← same) none.0)
    by_test false e later = later e

-- of a block that the plan wishes off
kernel_none : (l : LayoutParts) (s : Memory) (plan : List Item) (block : ℕ) (wish : Wish)
    → first_some (plan_refusals l s plan) ≡ None → wish_of plan block ≡ Some wish → is_off wish ≡ true
    → find (λ frame. is_some (kernel_order s frame)) (frames_of_block l block) ≡ None
kernel_none l s plan block wish e is off = by_item _ refl is
  where
    none : AllNone (map (kernel_frame_in l s) plan)
    none = all_none _ (map_none _ _ (all_none (plan_refusals l s plan) e).1.1.1.1.1.1.0)

    by_item : (o : Option Item) → find (λ item. item.block == block) plan ≡ o
        → option_map (λ item. item.wish) o ≡ Some wish
        → find (λ frame. is_some (kernel_order s frame)) (frames_of_block l block) ≡ None
    by_item None found e = cc
    by_item (Some item) found e =
        let same : item.block ≡ block =
        eqb-true item.block block (found_passes (λ i. i.block == block) plan item found) in
        let wishes : item.wish ≡ wish = cc in
        let its : kernel_frame_in l s item ≡ None =
        found_none _ (λ i. i.block == block) plan item none found in
        rw (← same) (when_off _ (rw (wishes, off)) its)
      where
        when_off : (b : Bool) → b ≡ true
            → cond b (find (λ frame. is_some (kernel_order s frame)) (frames_of_block l item.block)) None
            ≡ None
            → find (λ frame. is_some (kernel_order s frame)) (frames_of_block l item.block) ≡ None
        when_off true t e = e
        when_off false t e = cc

-- the claim of a going row wishes it off
record HasOffClaim (op : ℕ) (row : Row) : Type 0 where
  pub claim : Claim
  pub is : row.claim ≡ Some claim
  pub op_is : claim.op ≡ op
  pub off : is_off claim.wish ≡ true

-- of a row that is going for the operation
off_claim : (op : ℕ) (row : Row) (state : State) (zone : Option Zone) (claim : Option Claim)
    → row.claim ≡ claim → is_going_state state ≡ true → option_map_or (λ c. c.op == op) claim false ≡ true
    → IsRowOf state zone claim
    → HasOffClaim op row
off_claim op row GoingState zone (Some claim) e going mine h =
    record { claim = claim; is = e; op_is = eqb-true claim.op op mine; off = h.1 }
off_claim op row _ zone _ e going mine h = cc

-- after a Begin with a number that no row carries, none starts in a block that goes offline for it
pub begun_movable : (l : LayoutParts) (s : Memory) (op : ℕ) (plan : List Item) (first : ℕ) → IsLayout l
    → AreHeldBy (λ n. n ≢ op) s.blocks → first_some (plan_refusals l s plan) ≡ None
    → IsWellPlaced l (begin_plan l s op plan)
    → IsGoingFor l (begin_plan l s op plan) op first → kernel_order (begin_plan l s op plan) first ≡ None
begun_movable l s op plan first layout claims e p h =
    let block : ℕ = block_of l first in
    let row : Row = row_of (begin_plan l s op plan).blocks block in
    let has = off_claim op row _ _ _ refl h.going h.claimed (p.in_order.rows block) in
    let stays : kernel_order (begin_plan l s op plan) first ≡ kernel_order s first =
    rw (begin-kernel l op plan s) in
    elim (begin-from l op plan s block has.claim has.is) [
      | inl old ↦
          absurd (subst (λ (o : Option Claim). IfSome o (λ c. c.op ≢ op)) old
          (claimed_at (λ n. n ≢ op) _ block claims) has.op_is)
      | inr new ↦
          let none = kernel_none l s plan block _ e new.1 has.off in
          stays ∙ not_there _ (not_found (λ frame. is_some (kernel_order s frame))
          _ first none (block_has l block first layout refl))
    ]
