-- An operation commits: its going blocks leave the areas, and its other ones go online.
use Rattle.std.proofs.Common.{◌≡◌, ℕ, zero, suc, ◌+◌, ◌*◌, ◌^◌, ◌<◌, ◌≤◌, List, [], ◌∷◌, ◌++◌, length, Bool, true, false, Option, Some, None, refl, ◌∙◌, ap, arith, inl, inr, eqb-true, eq-eqb, ◌==◌, ◌||◌}
use Rattle.std.specs.Prelude.{filter, fold}
use Rattle.std.specs.List.{range_with_len, list_all}
use Rattle.std.specs.Option.{option_map_or}
use Rattle.std.proofs.lemmas.Bool.{and_parts, cases_eq, or_cases, or_left, cond_both}
use Rattle.std.proofs.lemmas.List.Folds.{list_any-append}
use Rattle.std.proofs.lemmas.Nat.{shl-shr}
use Rattle.hp_units.specs.declared.rows.Claim.{Claim}
use Rattle.hp_units.specs.declared.rows.Class.{Class}
use Rattle.hp_units.specs.declared.rows.Mobility.TheVariants.{Movable}
use Rattle.hp_units.specs.declared.rows.Row.{Row}
use Rattle.hp_units.specs.declared.rows.State.{State}
use Rattle.hp_units.specs.declared.rows.State.TheVariants.{Offline as OfflineState, Going as GoingState}
use Rattle.hp_units.specs.declared.rows.Wish.{Wish}
use Rattle.hp_units.specs.declared.rows.Wish.TheVariants.{Off as OffWish, Normal as NormalWish, Movable as MovableWish}
use Rattle.hp_units.specs.declared.rows.Zone.{Zone}
use Rattle.hp_units.specs.LayoutParts.{LayoutParts, IsLayout}
use Rattle.hp_units.specs.Arithmetic.{block_of_pageblock}
use Rattle.hp_units.specs.Memory.{FreeAreas, Memory, free_list, with_free_list, row_of, isolated_class, usable_class}
use Rattle.hp_units.specs.FreeAreas.{is_on}
use Rattle.hp_units.specs.Isolation.{add_pageblock}
use Rattle.hp_units.specs.Refusals.{is_all_free}
use Rattle.hp_units.specs.Rows.{commit_block, is_absent_state, commit_blocks, going_blocks, grant, is_claimed_by, is_going, is_going_state, is_off, is_offline_state, offline_block, online_block, zone_of_block}
use Rattle.hp_units.specs.Placement.{IsRowOf, IsWellPlaced, is_unplugged, wishes_off}
use Rattle.hp_units.proofs.Sizes.{with_free_list-size}
use Rattle.hp_units.proofs.ListEdits.{free_list-cases, on_tail}
use Rattle.hp_laws.proofs.Onlines.{online_block-placed, quotient}
use Rattle.hp_laws.proofs.Isolations.{pageblock_elsewhere}
use Rattle.hp_laws.proofs.Claims.{fold_blocks, later_rows}
use Rattle.hp_laws.specs.Commits.{IsAllFree, IsGrantable}
use Rattle.hp_laws.proofs.Offlined.{remove_block-range, offlined-placed}

-- ---- what the blocks that come later need

-- a state in the middle of a commit: the rows and the free pageblocks from a block on are as they
-- were at first
pub record CommitsFrom (l : LayoutParts) (s : Memory) (from : ℕ) (t : Memory) : Type 0 where
  pub placed : IsWellPlaced l t
  pub later : (block : ℕ) → from ≤ block → row_of t.blocks block ≡ row_of s.blocks block
  pub stays : (class : Class) (pageblock : ℕ) → from ≤ block_of_pageblock l pageblock
      → is_on (pageblock * 2 ^ l.order) (free_list s.free.areas class l.order) ≡ true
      → is_on (pageblock * 2 ^ l.order) (free_list t.free.areas class l.order) ≡ true

pub commits_next : (l : LayoutParts) (s : Memory) (from : ℕ) (t : Memory) → CommitsFrom l s from t
    → CommitsFrom l s (from + 1) t
commits_next l s from t h =
    record {
      placed = h.placed;
      later = λ block above. h.later block (omega arith);
      stays = λ class pageblock above on. h.stays class pageblock (omega arith) on;
    }

-- pageblocks that go to the back of a list leave all others where they are
added-stays : (l : LayoutParts) (zone : Zone) (a : FreeAreas) (from count : ℕ)
    → 5 * l.order + 5 ≤ length a.lists → (class : Class) (order first : ℕ)
    → is_on first (free_list a class order) ≡ true
    → is_on first (free_list (fold (add_pageblock l zone) a (range_with_len from count)) class order) ≡ true
added-stays l zone a from zero has class order first on = on
added-stays l zone a from (suc count) has class order first on =
    let to : Class = usable_class zone Movable in
    let frames : List ℕ = free_list a to l.order ++ from * 2 ^ l.order ∷ [] in
    let size = with_free_list-size a to l.order frames in
    added-stays l zone (with_free_list a to l.order frames) (from + 1) count (omega (arith, size.lists)) class
    order first
    (free_list-cases (λ (c : Class) (o : ℕ) (xs : List ℕ). is_on first (free_list a c o) ≡ true
    → is_on first xs ≡ true) a to l.order frames has
    (λ there. list_any-append (λ other. other == first) (free_list a to l.order) (from * 2 ^ l.order ∷ [])
    ∙ or_left (is_on first (free_list a to l.order)) _ there) (λ c o there. there) class order on)

-- ---- one block of a commit

pub claim_going : (state : State) (zone : Option Zone) (claim : Option Claim) → wishes_off claim ≡ true
    → IsRowOf state zone claim → is_going_state state ≡ true
claim_going GoingState zone claim e h = refl
claim_going OfflineState zone claim e h = absurd (cc (e, h.1))
claim_going _ zone None e h = cc
claim_going _ zone (Some claim) e h = absurd (cc h.1)

pub claim_offline : (state : State) (zone : Option Zone) (claim : Option Claim) (c : Claim) → claim ≡ Some c
    → wishes_off claim ≡ false → IsRowOf state zone claim → is_offline_state state ≡ true
claim_offline OfflineState zone claim c is e h = refl
claim_offline GoingState zone claim c is e h = absurd (cc (e, h.1))
claim_offline _ zone claim c is e h = absurd (cc (is, h.1))

pub going_plugged : (state : State) → is_going_state state ≡ true
    → (is_offline_state state || is_absent_state state) ≡ false
going_plugged GoingState e = refl
going_plugged _ e = cc

online-next : (l : LayoutParts) (s t : Memory) (block : ℕ) (zone : Zone) → IsLayout l → block < l.blocks
    → is_unplugged (row_of t.blocks block) ≡ true → CommitsFrom l s block t
    → CommitsFrom l s (block + 1) (online_block l zone t block)
unfolding online_block
online-next l s t block zone layout low off h = record {
  placed = online_block-placed l zone t block layout h.placed off low;
  later = later_rows t.blocks.rows s.blocks.rows block _ h.later;
  stays =
      λ class pageblock above on. added-stays l zone t.free.areas (block * l.pageblocks) l.pageblocks
      (omega (arith, h.placed.in_order.shape.lists)) class l.order (pageblock * 2 ^ l.order)
      (h.stays class pageblock (omega arith) on);
}

offline-next : (l : LayoutParts) (s t : Memory) (block : ℕ) → IsLayout l → block < l.blocks
    → is_going (row_of t.blocks block) ≡ true → IsAllFree l t.free.areas (zone_of_block t.blocks block) block
    → CommitsFrom l s block t
    → CommitsFrom l s (block + 1) (offline_block l t block)
offline-next l s t block layout low going all h =
    let range = remove_block-range l t block _ h.placed low all in
    record {
      placed =
          offlined-placed l t block _ layout h.placed low
          (going_plugged _ going) all;
      later = later_rows _ _ block _ h.later;
      stays = λ class pageblock above on. range.stays class l.order (pageblock * 2 ^ l.order)
          (rw (shl-shr pageblock l.order) (pageblock_elsewhere l block _ (λ same. absurd (omega arith))))
          (h.stays class pageblock (omega arith) on);
    }

-- a block that could be granted at first still can be
pub grantable_later : (l : LayoutParts) (s t : Memory) (block : ℕ) → IsGrantable l s block
    → CommitsFrom l s block t → IsGrantable l t block
grantable_later l s t block ready h going pageblock among =
    let same : row_of t.blocks block ≡ row_of s.blocks block = h.later block (omega arith) in
    let here : block_of_pageblock l pageblock ≡ block =
    quotient pageblock l.pageblocks block among.low among.high in
    h.stays (isolated_class (zone_of_block t.blocks block)) pageblock (omega arith)
    (rw same (ready (rw (← same, going)) pageblock among))

pub commit_block-next : (l : LayoutParts) (s : Memory) (t : Memory) (block : ℕ) → IsLayout l
    → block < l.blocks → IsGrantable l s block → CommitsFrom l s block t
    → CommitsFrom l s (block + 1) (commit_block l t block)
commit_block-next l s t block layout low ready h = by_claim _ refl
  where
    off : (claim : Claim) → (row_of t.blocks block).claim ≡ Some claim → is_off claim.wish ≡ false
        → is_unplugged (row_of t.blocks block) ≡ true
    off claim e still =
        let row : Row = row_of t.blocks block in
        or_left (is_offline_state row.state) _ (claim_offline _ _ _ claim e
        (rw (e, still)) (h.placed.in_order.rows block))

    by_wish : (claim : Claim) (wish : Wish) → (row_of t.blocks block).claim ≡ Some claim → claim.wish ≡ wish
        → CommitsFrom l s (block + 1) (grant l t block wish)
    by_wish claim OffWish e w =
        let row : Row = row_of t.blocks block in
        let going : is_going row ≡ true = claim_going _ _ _ (rw (e, w)) (h.placed.in_order.rows block) in
        offline-next l s t block layout low going (grantable_later l s t block ready h going) h
    by_wish claim NormalWish e w = online-next l s t block _ layout low (off claim e (rw w)) h
    by_wish claim MovableWish e w = online-next l s t block _ layout low (off claim e (rw w)) h

    by_claim : (o : Option Claim) → (row_of t.blocks block).claim ≡ o
        → CommitsFrom l s (block + 1) (option_map_or (λ claim. grant l t block claim.wish) o t)
    by_claim None e = commits_next l s block t h
    by_claim (Some claim) e = by_wish claim claim.wish e refl

-- ---- a commit

pub list_all_on : (p : ℕ → Bool) (xs : List ℕ) (x : ℕ) → list_all p xs ≡ true → is_on x xs ≡ true → p x ≡ true
list_all_on p [] x all on = cc
list_all_on p (y ∷ ys) x all on =
    let parts = and_parts (p y) (list_all p ys) all in
    elim (or_cases (y == x) (is_on x ys) on) [
      | inl same ↦ rw (← eqb-true y x same) parts.0
      | inr there ↦ list_all_on p ys x parts.1 there
    ]

pub filter_on : (p : ℕ → Bool) (xs : List ℕ) (x : ℕ) → p x ≡ true → is_on x xs ≡ true
    → is_on x (filter p xs) ≡ true
filter_on p [] x e on = cc
filter_on p (y ∷ ys) x e on = elim (or_cases (y == x) (is_on x ys) on) [
  | inl same ↦ rw (ap p (eqb-true y x same) ∙ e) (or_left (y == x) _ same)
  | inr there ↦
      let rest = filter_on p ys x e there in
      cond_both (p y) _ _ (λ zs. is_on x zs ≡ true) (λ _. on_tail x y _ rest) (λ _. rest)
]

pub range_on : (from count x : ℕ) → from ≤ x → x < from + count → is_on x (range_with_len from count) ≡ true
range_on from zero x low high = absurd (omega arith)
range_on from (suc count) x low high = elim (cases_eq from x) [
  | inl same ↦ or_left (from == x) (is_on x (range_with_len (from + 1) count)) (eq-eqb from x same)
  | inr ne ↦ on_tail x from _ (range_on (from + 1) count x (omega arith) (omega arith))
]

pub grantable : (l : LayoutParts) (s : Memory) (op : ℕ)
    → list_all (is_all_free l s) (going_blocks l s.blocks op) ≡ true → (block : ℕ) → block < l.blocks
    → is_claimed_by op (row_of s.blocks block) ≡ true
    → IsGrantable l s block
grantable l s op all block low mine going pageblock among =
    let here : is_on block (going_blocks l s.blocks op) ≡ true =
    filter_on (λ b. is_going (row_of s.blocks b)) _ block going
    (filter_on (λ b. is_claimed_by op (row_of s.blocks b)) _ block mine
    (range_on 0 _ block (omega arith) (omega arith))) in
    list_all_on (λ n. is_on (n * 2 ^ l.order) (free_list s.free.areas
    (isolated_class (zone_of_block s.blocks block)) l.order)) _ _ (list_all_on _ _ block all here)
    (range_on _ _ _ among.low among.high)

pub commit-placed : (l : LayoutParts) (s : Memory) (op : ℕ) → IsLayout l → IsWellPlaced l s
    → list_all (is_all_free l s) (going_blocks l s.blocks op) ≡ true → IsWellPlaced l (commit_blocks l s op)
unfolding commit_blocks
commit-placed l s op layout p all =
    (fold_blocks _ _ (λ block. is_claimed_by op (row_of s.blocks block)) 0 _ s
    (λ block u low mine h. commit_block-next l s u block layout (omega (arith, low))
    (grantable l s op all block (omega (arith, low)) mine) h) (commits_next l s)
    (record { placed = p; later = λ block above. refl; stays = λ class pageblock above on. on })).placed
