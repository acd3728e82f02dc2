-- The rows after an operation begins, commits or is released, block by block.
use Rattle.std.proofs.Common.{◌≡◌, ℕ, zero, suc, ◌+◌, ◌<◌, ◌≤◌, List, [], ◌∷◌, length, Bool, true, false, cond, Option, Some, None, refl, arith, inl, inr, length-set, set, sym}
use Rattle.std.specs.Prelude.{filter, fold}
use Rattle.std.specs.List.{range_with_len}
use Rattle.std.specs.Option.{option_map_or}
use Rattle.std.proofs.lemmas.Bool.{cases_eq, cases_Bool}
use Rattle.std.proofs.lemmas.List.{get_or-set_other, get_or-set_same, set-get_or}
use Rattle.hp_units.specs.declared.plans.Item.{Item}
use Rattle.hp_units.specs.declared.rows.Claim.{Claim}
use Rattle.hp_units.specs.declared.rows.Row.{Row}
use Rattle.hp_units.specs.declared.rows.State.{State}
use Rattle.hp_units.specs.declared.rows.State.TheVariants.{Online as OnlineState}
use Rattle.hp_units.specs.declared.rows.Zone.{Zone}
use Rattle.hp_units.specs.declared.rows.Wish.{Wish}
use Rattle.hp_units.specs.declared.rows.Wish.TheVariants.{Off as OffWish}
use Rattle.hp_units.specs.LayoutParts.{LayoutParts}
use Rattle.hp_units.specs.Memory.{Memory, offline_row, row_of}
use Rattle.hp_units.specs.Rows.{begin_block, begin_plan, claim_block, claimed_row, commit_block, commit_blocks, grant, is_claimed_by, is_going, online_again, online_block, release_block, release_blocks, wish_of, with_block_row}
use Rattle.hp_laws.specs.Operations.{wished_row}

-- ---- a fold over blocks, each of which changes its own row alone

abbrev pub IsRowwise : (Memory → ℕ → Memory) → (ℕ → Row → Row) → Type 0
IsRowwise f g =
    (s : Memory) (block : ℕ)
    → (f s block).blocks.rows ≡ set s.blocks.rows block (g block (row_of s.blocks block))

-- the blocks below the first one stay
fold_below : (f : Memory → ℕ → Memory) (g : ℕ → Row → Row) (p : ℕ → Bool) (from count : ℕ) (t : Memory)
    (block : ℕ)
    → IsRowwise f g → block < from
    → row_of (fold f t (filter p (range_with_len from count))).blocks block ≡ row_of t.blocks block
fold_below f g p from zero t block w below = refl
fold_below f g p from (suc count) t block w below = elim (cases_Bool (p from)) [
  | inl is ↦
      rw (is, fold_below f g p (from + 1) count (f t from) block w (omega arith), w t from)
      (get_or-set_other t.blocks.rows from block _ offline_row (λ same. omega arith))
  | inr is ↦ rw is (fold_below f g p _ count t block w (omega arith))
]

-- a block that passes the test gets its row, and another one stays
pub fold_row : (f : Memory → ℕ → Memory) (g : ℕ → Row → Row) (p : ℕ → Bool) (from count : ℕ) (t : Memory)
    (block : ℕ)
    → IsRowwise f g → from ≤ block → block < from + count → block < length t.blocks.rows
    → row_of (fold f t (filter p (range_with_len from count))).blocks block
    ≡ cond (p block) (g block (row_of t.blocks block)) (row_of t.blocks block)
fold_row f g p from zero t block w low high short = absurd (omega arith)
fold_row f g p from (suc count) t block w low high short = elim (cases_eq block from) [
  | inl same ↦ elim (cases_Bool (p from)) [
    | inl is ↦
        rw (same, is, fold_below f g p (from + 1) count (f t from) from w (omega arith), w t from)
        (get_or-set_same t.blocks.rows from _ offline_row (omega arith))
    | inr is ↦ rw (same, is) (fold_below f g p _ count t from w (omega arith))
  ]
  | inr ne ↦ elim (cases_Bool (p from)) [
    | inl is ↦
        let within : block < length (f t from).blocks.rows = rw (w t from, length-set) short in
        let rest =
        fold_row f g p (from + 1) count (f t from) block w (omega (arith, ne)) (omega arith) within in
        rw (is, rest, w t from, get_or-set_other t.blocks.rows from block _ offline_row ne)
    | inr is ↦ rw is (fold_row f g p _ count t block w (omega (arith, ne)) (omega arith) short)
  ]
]

-- a filter that all pass
filter_every : (xs : List ℕ) → filter (λ x. true) xs ≡ xs
filter_every [] = refl
filter_every (x ∷ xs) = rw (filter_every xs)

-- ---- an operation begins

abbrev pub begun_row : ℕ → Option Wish → Row → Row
begun_row op wish row = option_map_or (claimed_row row op) wish row

begin-rowwise : (l : LayoutParts) (op : ℕ) (plan : List Item)
    → IsRowwise (begin_block l op plan) (λ block row. begun_row op (wish_of plan block) row)
begin-rowwise l op plan s block = by_wish _
  where
    by_wish : (o : Option Wish) → (option_map_or (claim_block l op s block) o s).blocks.rows
        ≡ set s.blocks.rows block (begun_row op o (row_of s.blocks block))
    by_wish None = sym (set-get_or s.blocks.rows block offline_row)
    by_wish (Some OffWish) = refl
    by_wish _ = refl

-- each block of the plan is claimed, and each other stays
pub begin-row : (l : LayoutParts) (s : Memory) (op : ℕ) (plan : List Item) (block : ℕ) → block < l.blocks
    → length s.blocks.rows ≡ l.blocks
    → row_of (begin_plan l s op plan).blocks block ≡ begun_row op (wish_of plan block) (row_of s.blocks block)
unfolding begin_plan
begin-row l s op plan block low shape =
    rw (← filter_every (range_with_len 0 l.blocks))
    (fold_row (begin_block l op plan) (λ b row. begun_row op (wish_of plan b) row) (λ b. true) 0 l.blocks s
    block (begin-rowwise l op plan) (omega arith) (omega arith) (omega (arith, shape)))

-- ---- an operation commits

abbrev pub committed_row : Row → Row
committed_row row = option_map_or (λ claim. wished_row claim.wish) row.claim row

commit-rowwise : (l : LayoutParts) → IsRowwise (commit_block l) (λ block row. committed_row row)
unfolding online_block
commit-rowwise l s block = by_claim _
  where
    granted : (wish : Wish) → (grant l s block wish).blocks.rows ≡ set s.blocks.rows block (wished_row wish)
    granted OffWish = refl
    granted _ = refl

    by_claim : (o : Option Claim) → (option_map_or (λ claim. grant l s block claim.wish) o s).blocks.rows
        ≡ set s.blocks.rows block (option_map_or (λ claim. wished_row claim.wish) o (row_of s.blocks block))
    by_claim None = sym (set-get_or s.blocks.rows block offline_row)
    by_claim (Some claim) = granted _

-- each block that the operation holds gets its wish, and each other stays
pub commit-row : (l : LayoutParts) (s : Memory) (op block : ℕ) → block < l.blocks
    → length s.blocks.rows ≡ l.blocks
    → row_of (commit_blocks l s op).blocks block ≡ cond (is_claimed_by op (row_of s.blocks block))
    (committed_row (row_of s.blocks block)) (row_of s.blocks block)
unfolding commit_blocks
commit-row l s op block low shape =
    fold_row _ (λ b row. committed_row row) (λ b. is_claimed_by op (row_of s.blocks b)) 0
    _ s block (commit-rowwise l) (omega arith) (omega arith) (omega (arith, shape))

-- ---- an operation is released

-- a row by its parts
abbrev pub row_with : State → Option Zone → Option Claim → Row
row_with state zone claim = record { state = state; zone = zone; claim = claim }

abbrev pub released_row : Row → Row
released_row row = cond (is_going row) (row_with OnlineState row.zone None) (row_with row.state row.zone None)

release-rowwise : (l : LayoutParts) → IsRowwise (release_block l) (λ block row. released_row row)
release-rowwise l s block = by_going _
  where
    by_going : (b : Bool)
        → (cond b (online_again l s block)
        (with_block_row s block (record (row_of s.blocks block) { claim = None }))).blocks.rows
        ≡ set s.blocks.rows block (cond b (row_with OnlineState (row_of s.blocks block).zone None)
        (row_with (row_of s.blocks block).state (row_of s.blocks block).zone None))
    by_going true = refl
    by_going false = refl

-- each block that the operation holds is released, and each other stays
pub release-row : (l : LayoutParts) (s : Memory) (op block : ℕ) → block < l.blocks
    → length s.blocks.rows ≡ l.blocks
    → row_of (release_blocks l s op).blocks block ≡ cond (is_claimed_by op (row_of s.blocks block))
    (released_row (row_of s.blocks block)) (row_of s.blocks block)
unfolding release_blocks
release-row l s op block low shape =
    fold_row _ (λ b row. released_row row) (λ b. is_claimed_by op (row_of s.blocks b)) 0
    _ s block (release-rowwise l) (omega arith) (omega arith) (omega (arith, shape))
