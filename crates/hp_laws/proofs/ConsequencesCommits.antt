-- A going block is all free where each of its frames is in a free block, and the search for a frame
-- that is in none.
use Rattle.std.proofs.Common.{◌≡◌, ℕ, zero, suc, ◌+◌, ◌*◌, ◌/◌, ◌^◌, ◌<◌, ◌≤◌, List, [], ◌∷◌, length, get_or, Bool, true, false, not, Option, Some, None, refl, sym, ◌∙◌, subst, arith, inl, inr, ◌==◌}
use Rattle.std.specs.Prelude.{find, flat_map, is_none}
use Rattle.std.specs.List.{list_all, list_any, range_with_len}
use Rattle.std.proofs.lemmas.Bool.{and_from, both_ways, cases_lt, false_from_ne_true, not-false, or_cases, or_left, or_right, eq-eqb}
use Rattle.std.proofs.lemmas.List.{get_or_past}
use Rattle.std.proofs.lemmas.List.Folds.{list_any-append}
use Rattle.std.proofs.lemmas.Nat.{div-add-mod', mul-le, pow_pos, shl-shr}
use Rattle.std.proofs.Math.Nat.{lt-div-mul-add}
use Rattle.hp_units.specs.declared.rows.Class.{Class}
use Rattle.hp_units.specs.declared.rows.Class.TheVariants.{Nu, Nm, Mm, IsoN, IsoM}
use Rattle.hp_units.specs.declared.rows.Row.{Row}
use Rattle.hp_units.specs.declared.rows.Zone.{Zone}
use Rattle.hp_units.specs.LayoutParts.{LayoutParts, IsLayout}
use Rattle.hp_units.specs.Numbers.{ancestor}
use Rattle.hp_units.specs.Arithmetic.{block_of, block_of_pageblock, block_size, frames_of_block, pageblock_of}
use Rattle.hp_units.specs.Memory.{FreeAreas, Memory, free_list, isolated_class, offline_row, row_of}
use Rattle.hp_units.specs.FreeAreas.{is_on}
use Rattle.hp_units.specs.Refusals.{frame_in_use, is_all_free, is_free_start, is_in_free_block}
use Rattle.hp_units.specs.Rows.{going_blocks, is_claimed_by, is_going, zone_of_block}
use Rattle.hp_units.specs.Placement.{IsWellPlaced, class_at, kind_at, row_at}
use Rattle.hp_laws.specs.Consequences.{IsFrameOf, IsGoingFor, IsFrameInUse, IsInFreeBlock}
use Rattle.hp_laws.proofs.Ordered.{AreOrdered}
use Rattle.hp_laws.proofs.Options.{found_passes, cond_none, cond_some}
use Rattle.hp_units.proofs.Geometry.{multiple, multiple_aligned}
use Rattle.hp_units.proofs.ListEdits.{on_cases, on_tail}
use Rattle.hp_laws.proofs.Areas.{on_free}
use Rattle.hp_laws.proofs.States.{areas_of, block_of-pageblock}
use Rattle.hp_laws.proofs.Onlines.{quotient}
use Rattle.hp_laws.proofs.Pageblocks.{on_filter, on_range}
use Rattle.hp_laws.proofs.Isolations.{pageblock_range, some_pageblocks}
use Rattle.hp_laws.proofs.Claims.{going_zone, some_zone}
use Rattle.hp_laws.proofs.Commits.{filter_on, list_all_on, range_on}
use Rattle.hp_laws.proofs.ConsequencesBlocks.{block_free, in_number, number_in, on_head, whole_pageblock}

-- ---- tests over lists of numbers

-- what passes a test that something passes
any_some : {X : Type 0} (p : X → Bool) (xs : List X) → list_any p xs ≡ true → (x : X) × (p x ≡ true)
any_some p [] e = cc
any_some p (x ∷ xs) e = elim (or_cases (p x) (list_any p xs) e) [
  | inl here ↦ (x, here)
  | inr there ↦ any_some p xs there
]

-- something passes a test that a number on the list passes
on_any : (p : ℕ → Bool) (xs : List ℕ) (x : ℕ) → is_on x xs ≡ true → p x ≡ true → list_any p xs ≡ true
on_any p [] x on e = cc
on_any p (y ∷ ys) x on e = elim (on_cases x y ys on) [
  | inl same ↦ or_left (p y) (list_any p ys) (rw same e)
  | inr there ↦ or_right (p y) _ (on_any p ys x there e)
]

-- all pass a test that each number on the list passes
pub all_from : (p : ℕ → Bool) (xs : List ℕ) → ((x : ℕ) → is_on x xs ≡ true → p x ≡ true)
    → list_all p xs ≡ true
all_from p [] h = refl
all_from p (x ∷ xs) h =
    and_from (p x) (list_all p xs) (h x (on_head x xs)) (all_from p xs (λ y on. h y (on_tail y x xs on)))

-- what is found is on the list
found_on : (p : ℕ → Bool) (xs : List ℕ) (x : ℕ) → find p xs ≡ Some x → is_on x xs ≡ true
found_on p [] x e = cc
found_on p (y ∷ ys) x e = elim (cond_some (p y) y x _ e) [
  | inl here ↦ or_left (y == x) _ (eq-eqb y x here.1)
  | inr later ↦ on_tail x y ys (found_on p ys x later)
]

-- where nothing is found, nothing on the list passes
pub not_found : (p : ℕ → Bool) (xs : List ℕ) (x : ℕ) → find p xs ≡ None → is_on x xs ≡ true → p x ≡ false
not_found p [] x e on = cc
not_found p (y ∷ ys) x e on =
    let fails = cond_none (p y) y _ e in
    elim (on_cases x y ys on) [
      | inl same ↦ rw (← same) fails.0
      | inr there ↦ not_found p ys x fails.1 there
    ]

-- a number on one of several lists
pub flat_on : (f : ℕ → List ℕ) (blocks : List ℕ) (x : ℕ) → is_on x (flat_map f blocks) ≡ true
    → (block : ℕ) × (is_on block blocks ≡ true) × (is_on x (f block) ≡ true)
flat_on f [] x on = cc
flat_on f (b ∷ bs) x on = elim (or_cases (is_on x (f b)) (is_on x (flat_map f bs))
    (sym (list_any-append (λ other. other == x) (f b) (flat_map f bs)) ∙ on)) [
      | inl here ↦ (b, on_head b bs, here)
      | inr there ↦ (let rest = flat_on f bs x there in (rest.0, on_tail rest.0 b bs rest.1, rest.2))
    ]

-- and each number of each list is on all of them
pub on_flat : (f : ℕ → List ℕ) (blocks : List ℕ) (block x : ℕ) → is_on block blocks ≡ true
    → is_on x (f block) ≡ true → is_on x (flat_map f blocks) ≡ true
on_flat f [] block x on there = cc
on_flat f (b ∷ bs) block x on there = elim (on_cases block b bs on) [
  | inl same ↦
      list_any-append (λ other. other == x) (f b) (flat_map f bs) ∙ or_left (is_on x (f b))
      (is_on x (flat_map f bs)) (rw same there)
  | inr later ↦
      list_any-append (λ other. other == x) (f b) (flat_map f bs)
      ∙ or_right _ _ (on_flat f bs block x later there)
]

-- ---- the test of a frame

-- the block of an order that a frame lies in has it
ancestor_has : (frame order : ℕ) → IsFrameOf frame order (ancestor frame order)
ancestor_has frame order =
    let high : frame < frame / 2 ^ order * 2 ^ order + 2 ^ order = lt-div-mul-add (pow_pos order) in
    record { low = omega (arith, div-add-mod' frame (2 ^ order)); high = omega arith }

-- a test of the five classes
pub on_class : (p : Class → Bool) (class : Class) → p class ≡ true
    → list_any p (Nu ∷ Nm ∷ Mm ∷ IsoN ∷ IsoM ∷ []) ≡ true
on_class p Nu e = or_left (p Nu) _ e
on_class p Nm e = or_right (p Nu) _ (or_left (p Nm) _ e)
on_class p Mm e = or_right (p Nu) _ (or_right (p Nm) _ (or_left (p Mm) _ e))
on_class p IsoN e = or_right (p Nu) _ (or_right (p Nm) _ (or_right (p Mm) _ (or_left (p IsoN) _ e)))
on_class p IsoM e =
    or_right (p Nu) _ (or_right (p Nm) _ (or_right (p Mm) _ (or_right _ _ (or_left (p IsoM) _ e))))

-- the test finds the free block that has the frame
pub tested_block : (l : LayoutParts) (a : FreeAreas) (frame : ℕ) → is_in_free_block l a frame ≡ true
    → IsInFreeBlock a frame
tested_block l a frame e =
    let order =
    any_some (λ (o : ℕ). is_free_start a o (ancestor frame o)) (range_with_len 0 (l.order + 1)) e in
    let class =
    any_some (λ (c : Class). is_on (ancestor frame order.0) (free_list a c order.0))
    (Nu ∷ Nm ∷ Mm ∷ IsoN ∷ IsoM ∷ []) order.1 in
    record {
      class = class.0;
      order = order.0;
      first = ancestor frame order.0;
      on = class.1;
      within = ancestor_has frame _;
    }

-- and it finds each that there is
pub block_tested : (l : LayoutParts) (class_at : ℕ → Option Class) (a : FreeAreas) (frame : ℕ)
    → AreOrdered l class_at a → IsInFreeBlock a frame → is_in_free_block l a frame ≡ true
block_tested l class_at a frame h b =
    let aligned = (h.blocks b.class b.order b.first b.on).aligned in
    let low = (on_free l _ a b.class b.order b.first h b.on).low in
    let is : b.first ≡ ancestor frame b.order =
    rw (multiple _ _ aligned, ← in_number frame _ _ aligned b.within) in
    on_any (λ (o : ℕ). is_free_start a o (ancestor frame o)) _ _
    (range_on 0 _ b.order (omega arith) (omega arith))
    (on_class (λ (c : Class). is_on (ancestor frame b.order) (free_list a c b.order)) _
    (subst (λ (f : ℕ). is_on f (free_list a b.class b.order) ≡ true) is b.on))

-- ---- the test of a block

-- a going block of whose frames each is free is all free
pub frames_all_free : (l : LayoutParts) (s : Memory) (block : ℕ) → IsWellPlaced l s
    → is_going (row_of s.blocks block) ≡ true
    → ((frame : ℕ) → block_of l frame ≡ block → IsInFreeBlock s.free.areas frame)
    → is_all_free l s block ≡ true
frames_all_free l s block p going free =
    let zone : Zone = zone_of_block s.blocks block in
    let row : Row = row_of s.blocks block in
    let zoned : row.zone ≡ Some zone = some_zone _ (going_zone _ _ _ going (p.in_order.rows block)) in
    all_from (λ (n : ℕ). is_on (n * 2 ^ l.order) (free_list s.free.areas (isolated_class zone) l.order))
    _ (λ pageblock on.
    let among = on_range _ _ _ on in
    let here : block_of_pageblock l pageblock ≡ block = quotient _ _ block among.low among.high in
    let zone_is : (row_at l s.blocks.rows pageblock).zone ≡ Some zone = rw here zoned in
    let isolated : (kind_at s.free.areas.kinds pageblock).isolated ≡ true =
    p.in_order.isolated pageblock
    ∙ subst (λ (b : ℕ). is_going (row_of s.blocks b) ≡ true) (sym here) going in
    whole_pageblock l _ _ _ _ (areas_of l s p) (rw (zone_is, isolated) refl) (λ frame inside.
    block_free l _ _ frame (areas_of l s p) (free frame (rw (block_of-pageblock l frame, inside, here)))))

-- each frame of a block that is all free is in a free block
pub all_free_frames : (l : LayoutParts) (s : Memory) (block frame : ℕ) → IsLayout l
    → is_all_free l s block ≡ true → block_of l frame ≡ block → IsInFreeBlock s.free.areas frame
all_free_frames l s block frame layout all here =
    let class : Class = isolated_class (zone_of_block s.blocks block) in
    let pageblock : ℕ = pageblock_of l frame in
    let among =
    pageblock_range l block _ (some_pageblocks l layout) (sym (block_of-pageblock l frame) ∙ here) in
    record {
      class = class;
      order = l.order;
      first = pageblock * 2 ^ l.order;
      on =
          list_all_on (λ (n : ℕ). is_on (n * 2 ^ l.order) (free_list s.free.areas class l.order)) _ _ all
          (range_on _ _ _ among.low among.high);
      within =
          number_in frame _ _ (multiple_aligned _ _)
          (sym (shl-shr pageblock l.order));
    }

-- ---- the frames of an operation's going blocks

-- they are the frames that lie in it
pub block_has : (l : LayoutParts) (block frame : ℕ) → IsLayout l → block_of l frame ≡ block
    → is_on frame (frames_of_block l block) ≡ true
block_has l block frame layout e =
    let high : frame < frame / block_size l * block_size l + block_size l =
    lt-div-mul-add
    (omega (arith, mul-le 1 1 l.pageblocks (2 ^ l.order) (some_pageblocks l layout) (pow_pos l.order))) in
    let low : frame / block_size l * block_size l ≤ frame =
    omega (arith, div-add-mod' frame (block_size l)) in
    rw (← e) (range_on _ _ frame low high)

-- a row that is claimed is one of the layout's
claimed_low : (rows : List Row) (op block : ℕ) → is_claimed_by op (get_or rows block offline_row) ≡ true
    → block < length rows
claimed_low rows op block e = elim (cases_lt block (length rows)) [
  | inl low ↦ low
  | inr high ↦
      absurd (both_ways (is_claimed_by op offline_row) refl
      (subst (λ (r : Row). is_claimed_by op r ≡ true) (get_or_past rows block offline_row high) e))
]

-- an operation is live where a row carries its number
pub claimed_live : (rows : List Row) (op block : ℕ) → is_claimed_by op (get_or rows block offline_row) ≡ true
    → list_any (is_claimed_by op) rows ≡ true
claimed_live [] op block e = cc
claimed_live (row ∷ rows) op zero e = or_left (is_claimed_by op row) (list_any (is_claimed_by op) rows) e
claimed_live (row ∷ rows) op (suc block) e = or_right _ _ (claimed_live rows op block e)

-- the operation is taking the block offline
pub record IsGoingBlock (l : LayoutParts) (s : Memory) (op block : ℕ) : Type 0 where
  pub claimed : is_claimed_by op (row_of s.blocks block) ≡ true
  pub going : is_going (row_of s.blocks block) ≡ true

-- the going blocks of an operation
pub going_on : (l : LayoutParts) (s : Memory) (op block : ℕ) → is_on block (going_blocks l s.blocks op) ≡ true
    → IsGoingBlock l s op block
going_on l s op block on =
    let outer = on_filter (λ (b : ℕ). is_going (row_of s.blocks b)) block _ on in
    let inner = on_filter (λ (b : ℕ). is_claimed_by op (row_of s.blocks b)) block _ outer.right in
    record { claimed = inner.left; going = outer.left }

-- each of them is among them
on_going : (l : LayoutParts) (s : Memory) (op block : ℕ) → IsWellPlaced l s → IsGoingBlock l s op block
    → is_on block (going_blocks l s.blocks op) ≡ true
on_going l s op block p h =
    let low : block < l.blocks = omega (arith, claimed_low _ op block h.claimed, p.in_order.shape.rows) in
    filter_on (λ (b : ℕ). is_going (row_of s.blocks b)) _ block h.going
    (filter_on (λ (b : ℕ). is_claimed_by op (row_of s.blocks b)) _ block h.claimed
    (range_on 0 _ block (omega arith) (omega arith)))

-- the frames that the search for one in use goes over
abbrev pub going_frames : LayoutParts → Memory → ℕ → List ℕ
going_frames l s op = flat_map (frames_of_block l) (going_blocks l s.blocks op)

-- the frames of its going blocks
pub frame_going : (l : LayoutParts) (s : Memory) (op frame : ℕ) → is_on frame (going_frames l s op) ≡ true
    → IsGoingFor l s op frame
frame_going l s op frame on =
    let found = flat_on _ _ frame on in
    let among = on_range frame _ _ found.2 in
    let here : block_of l frame ≡ found.0 = quotient frame _ _ among.low among.high in
    let block = going_on l s op _ found.1 in
    record {
      claimed = rw here block.claimed;
      going = rw here block.going;
    }

-- each of them is among them
pub going_frame : (l : LayoutParts) (s : Memory) (op frame : ℕ) → IsLayout l → IsWellPlaced l s
    → IsGoingFor l s op frame → is_on frame (going_frames l s op) ≡ true
going_frame l s op frame layout p h =
    on_flat (frames_of_block l) (going_blocks l s.blocks op) (block_of l frame) frame
    (on_going l s op (block_of l frame) p (record { claimed = h.claimed; going = h.going }))
    (block_has l (block_of l frame) frame layout refl)

-- ---- the search for a frame that no free block has

-- a test that fails does not pass
not_true : (b : Bool) → not b ≡ true → b ≡ true → ⊥
not_true true e f = cc
not_true false e f = cc

-- the frame that is found is in use
pub found_in_use : (l : LayoutParts) (s : Memory) (op frame : ℕ) → IsWellPlaced l s
    → frame_in_use l s op ≡ Some frame → IsFrameInUse l s op frame
found_in_use l s op frame p e = record {
  going =
      frame_going l s op frame
      (found_on (λ (f : ℕ). not (is_in_free_block l s.free.areas f)) _ frame e);
  not_free =
      λ block. not_true _ (found_passes (λ (f : ℕ). not (is_in_free_block l s.free.areas f)) _ frame e)
      (block_tested l _ _ frame (areas_of l s p)
      block);
}

-- where none is found, each frame is in a free block
pub none_in_use : (l : LayoutParts) (s : Memory) (op frame : ℕ) → IsLayout l → IsWellPlaced l s
    → frame_in_use l s op ≡ None → IsGoingFor l s op frame → IsInFreeBlock s.free.areas frame
none_in_use l s op frame layout p e h =
    tested_block l _ frame (not-false (is_in_free_block l s.free.areas frame) (not_found
    (λ (f : ℕ). not (is_in_free_block l s.free.areas f)) _ frame e (going_frame l s op frame layout p h)))

-- each going block is all free where no frame is found
pub all_free-none : (l : LayoutParts) (s : Memory) (op : ℕ) → IsLayout l → IsWellPlaced l s
    → list_all (is_all_free l s) (going_blocks l s.blocks op) ≡ is_none (frame_in_use l s op)
all_free-none l s op layout p = by_found _ refl
  where
    by_found : (o : Option ℕ) → frame_in_use l s op ≡ o
        → list_all (is_all_free l s) (going_blocks l s.blocks op) ≡ is_none o
    by_found None e = all_from _ _ (λ block on.
        let h = going_on l s op block on in
        frames_all_free l s block p h.going (λ frame here. none_in_use l s op frame layout p e (record {
          claimed = rw here h.claimed;
          going = rw here h.going;
        })))
    by_found (Some frame) e =
        false_from_ne_true (list_all (is_all_free l s) (going_blocks l s.blocks op)) (λ all.
        let h = found_in_use l s op frame p e in
        h.not_free (all_free_frames l s _ frame layout
        (list_all_on (is_all_free l s) (going_blocks l s.blocks op) (block_of l frame) all (on_going l s op
        _ p (record { claimed = h.going.claimed; going = h.going.going }))) refl))
