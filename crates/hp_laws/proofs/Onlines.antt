-- A block goes online.
use Rattle.std.proofs.Common.{◌≡◌, ◌≢◌, ℕ, zero, suc, ◌+◌, ◌-◌, ◌*◌, ◌/◌, ◌^◌, ◌<◌, ◌≤◌, List, [], ◌∷◌, ◌++◌, length, get_or, set, true, false, cond, Option, Some, None, refl, arith, inl, inr, add-zero, ◌&&◌}
use Rattle.std.specs.Prelude.{fold, nat_le, nat_lt}
use Rattle.std.specs.List.{range_with_len}
use Rattle.std.proofs.lemmas.Bool.{cases_eq, cases_lt}
use Rattle.std.proofs.lemmas.Bool.Decides.{nat_tests}
use Rattle.std.proofs.lemmas.List.{get_or-set_other, get_or-set_same}
use Rattle.std.proofs.lemmas.Nat.{mul-le, pow_pos, shl-shr, div-mul-add, div-add-mod'}
use Rattle.hp_units.specs.declared.rows.Class.{Class}
use Rattle.hp_units.specs.declared.rows.Row.{Row}
use Rattle.hp_units.specs.declared.rows.Kind.{Kind}
use Rattle.hp_units.specs.declared.rows.Zone.{Zone}
use Rattle.hp_units.specs.declared.rows.Mobility.TheVariants.{Movable}
use Rattle.hp_units.specs.declared.rows.State.TheVariants.{Online as OnlineState}
use Rattle.hp_units.specs.LayoutParts.{LayoutParts, IsLayout}
use Rattle.hp_units.specs.Arithmetic.{block_of, block_of_pageblock}
use Rattle.hp_units.specs.Memory.{FreeAreas, Memory, free_list, with_free_list, row_of, offline_row, usable_class, isolated_class}
use Rattle.hp_units.specs.Isolation.{add_pageblock}
use Rattle.hp_units.specs.Rows.{with_block_row, online_block}
use Rattle.hp_units.specs.Placement.{is_unplugged, free_places, offline_places, IsInOrder, IsWellPlaced, class_at, kind_at, covered}
use Rattle.hp_units.proofs.Places.{with_free_list-places}
use Rattle.hp_laws.proofs.Ordered.{AreOrdered}
use Rattle.hp_units.proofs.Geometry.{multiple_aligned}
use Rattle.hp_laws.proofs.Areas.{has_order, more-ordered}
use Rattle.hp_units.proofs.ListParts.{back-more}
use Rattle.hp_laws.proofs.States.{areas_of, areas-in_order}
use Rattle.hp_laws.proofs.Rows.{row-in_order, plain_kinds, HasPlainKinds}

-- 1 if a number lies between two
abbrev pub within : (frame low high : ℕ) → ℕ
within frame low high = cond (nat_le low frame && nat_lt frame high) 1 0

within-none : (frame low : ℕ) → within frame low low ≡ 0
within-none frame low = grind (arith, nat_tests)

pub within-split : (frame low middle high : ℕ) → low ≤ middle → middle ≤ high
    → within frame low high ≡ within frame low middle + within frame middle high
within-split frame low middle high h k = grind (arith, nat_tests)

pub inside : (frame size block : ℕ) → 0 < size → frame / size ≡ block
    → within frame (block * size) (block * size + size) ≡ 1
inside frame size block some e =
    let low : frame / size * size ≤ frame = omega (arith, div-add-mod' frame size) in
    rw (← e) (grind (arith, nat_tests))

pub quotient : (n size q : ℕ) → q * size ≤ n → n < q * size + size → n / size ≡ q
quotient n size q low high =
    let is : n ≡ q * size + (n - q * size) = omega arith in
    rw is (div-mul-add q size (n - q * size) (omega arith))

pub outside : (frame size block : ℕ) → frame / size ≢ block
    → within frame (block * size) (block * size + size) ≡ 0
outside frame size block ne = elim (cases_lt frame (block * size)) [
  | inl below ↦ grind (arith, nat_tests)
  | inr low ↦ elim (cases_lt frame (block * size + size)) [
    | inl high ↦ absurd (ne (quotient frame size block low high))
    | inr above ↦ grind (arith, nat_tests)
  ]
]

-- ---- pageblocks go to the back of a list

pub record AddsOrdered (l : LayoutParts) (class_at : ℕ → Option Class) (a : FreeAreas) (from count : ℕ)
    (b : FreeAreas) : Type 0 where
  pub ordered : AreOrdered l class_at b
  pub places : (frame : ℕ)
      → free_places b frame
      ≡ free_places a frame + within frame (from * 2 ^ l.order) ((from + count) * 2 ^ l.order)
  pub kinds : b.kinds ≡ a.kinds

pub add_all-ordered : (l : LayoutParts) (class_at : ℕ → Option Class) (zone : Zone) (a : FreeAreas)
    (from count : ℕ)
    → AreOrdered l class_at a
    → ((pageblock : ℕ) → from ≤ pageblock → pageblock < from + count
    → class_at pageblock ≡ Some (usable_class zone Movable))
    → ((frame : ℕ)
    → free_places a frame + within frame (from * 2 ^ l.order) ((from + count) * 2 ^ l.order) ≤ 1)
    → AddsOrdered l class_at a from count (fold (add_pageblock l zone) a (range_with_len from count))
add_all-ordered l class_at zone a from zero h classes room = record {
  ordered = h;
  places = λ frame. rw add-zero (omega (arith, within-none frame (from * 2 ^ l.order)));
  kinds = refl;
}
add_all-ordered l class_at zone a from (suc count) h classes room =
    let class : Class = usable_class zone Movable in
    let first : ℕ = from * 2 ^ l.order in
    let frames : List ℕ = free_list a class l.order ++ first ∷ [] in
    let next : (from + 1) * 2 ^ l.order ≡ first + 2 ^ l.order = grind arith in
    let sum : from + 1 + count ≡ from + suc count = omega arith in
    let split : (frame : ℕ)
    → within frame first ((from + suc count) * 2 ^ l.order) ≡ covered frame l.order first
    + within frame ((from + 1) * 2 ^ l.order) ((from + suc count) * 2 ^ l.order) =
    λ frame. rw next (within-split frame first (first + 2 ^ l.order) ((from + suc count) * 2 ^ l.order)
    (omega arith) (omega arith)) in
    let more = back-more l.order first (free_list a class l.order) in
    let agrees : class_at (first / 2 ^ l.order) ≡ Some class =
    rw shl-shr (classes from (omega arith) (omega arith)) in
    let here : AreOrdered l class_at (with_free_list a class l.order frames) =
    more-ordered l class_at a class l.order first frames (omega arith) more
    (record { aligned = multiple_aligned from l.order; class_agrees = agrees })
    (λ frame. omega (arith, room frame, split frame)) (λ below. absurd (omega arith)) h in
    let places : (frame : ℕ)
    → free_places (with_free_list a class l.order frames) frame
    ≡ free_places a frame + covered frame l.order first =
    λ frame. omega (
      arith,
      with_free_list-places a class l.order frame frames
          (has_order l class_at a l.order h (omega arith)),
      more.places frame,
    ) in
    let rest =
    add_all-ordered l class_at zone (with_free_list a class l.order frames) (from + 1) count here
    (λ pageblock low high. classes pageblock (omega arith) (omega arith))
    (rw sum (λ frame. omega (arith, room frame, split frame, places frame))) in
    record {
      ordered = rest.ordered;
      places = λ frame. omega (arith, rw sum at (rest.places frame), places frame, split frame);
      kinds = rest.kinds;
    }

-- ---- a block

mul_some : (a b : ℕ) → 0 < a → 0 < b → 0 < a * b
mul_some a b h k = omega (arith, mul-le 1 1 a b h k)

online_class : (kinds : List Kind) (zone : Zone) (kind : Kind) → kind.isolated ≡ false
    → kind.mobility ≡ Movable
    → cond kind.isolated (isolated_class zone) (usable_class zone kind.mobility) ≡ usable_class zone Movable
online_class kinds zone kind e f = rw (e, f) refl

abbrev pub online_row : Zone → Row
online_row zone = record { state = OnlineState; zone = Some zone; claim = None }

pub online_block-placed : (l : LayoutParts) (zone : Zone) (s : Memory) (block : ℕ) → IsLayout l
    → IsWellPlaced l s → is_unplugged (row_of s.blocks block) ≡ true → block < l.blocks
    → IsWellPlaced l (online_block l zone s block)
unfolding online_block
online_block-placed l zone s block layout p off low =
    let row : Row = online_row zone in
    let rows : List Row = set s.blocks.rows block row in
    let plain : HasPlainKinds l s block = plain_kinds l s block p off in
    let short : block < length s.blocks.rows = omega (arith, p.in_order.shape.rows) in
    let before : IsInOrder l (with_block_row s block row) =
    row-in_order l s block row p off low (refl, refl) refl in
    let areas : AreOrdered l (class_at l s.free.areas.kinds rows) s.free.areas =
    record {
      lists = p.in_order.shape.lists;
      few = (areas_of l s p).few;
      blocks = before.blocks;
      joined = before.joined;
    } in
    let k : ℕ = layout.pageblocks.0 in
    let pos : 0 < 2 ^ k = pow_pos k in
    let is : l.pageblocks ≡ 2 ^ k = layout.pageblocks.2 in
    let start : block * l.pageblocks * 2 ^ l.order ≡ block * (l.pageblocks * 2 ^ l.order) = grind arith in
    let end : (block * l.pageblocks + l.pageblocks) * 2 ^ l.order
    ≡ block * (l.pageblocks * 2 ^ l.order) + l.pageblocks * 2 ^ l.order =
    grind arith in
    let size : 0 < l.pageblocks * 2 ^ l.order = rw is (mul_some (2 ^ k) _ pos (pow_pos l.order)) in
    let classes : (pageblock : ℕ) → block * l.pageblocks ≤ pageblock
    → pageblock < block * l.pageblocks + l.pageblocks
    → class_at l s.free.areas.kinds rows pageblock ≡ Some (usable_class zone Movable) =
    λ pageblock from to.
    let here : block_of_pageblock l pageblock ≡ block = quotient _ _ block from to in
    let now : get_or rows (block_of_pageblock l pageblock) offline_row ≡ row =
    rw here (get_or-set_same s.blocks.rows block row offline_row short) in
    rw now (rw (online_class s.free.areas.kinds zone (kind_at s.free.areas.kinds pageblock)
    (plain.isolated pageblock here) (plain.mobility pageblock here))) in
    let offline : (frame : ℕ)
    → offline_places l (with_block_row s block row) frame + within frame
    (block * (l.pageblocks * 2 ^ l.order))
    (block * (l.pageblocks * 2 ^ l.order) + l.pageblocks * 2 ^ l.order) ≡ offline_places l s frame =
    λ frame. elim (cases_eq (block_of l frame) block) [
      | inl same ↦
          let old : offline_places l s frame ≡ 1 = rw (same, off) in
          let new : offline_places l (with_block_row s block row) frame ≡ 0 =
          rw (same, get_or-set_same s.blocks.rows block row offline_row short) in
          omega (arith, inside frame (l.pageblocks * 2 ^ l.order) block size same)
      | inr ne ↦
          let new : offline_places l (with_block_row s block row) frame ≡ offline_places l s frame =
          rw (get_or-set_other s.blocks.rows block (block_of l frame) row offline_row ne) in
          omega (arith, outside frame (l.pageblocks * 2 ^ l.order) block ne)
    ] in
    let added =
    add_all-ordered l _ zone _ _ _ areas classes
    (λ frame. rw (start, end) (omega (arith, p.once frame, offline frame))) in
    record {
      in_order =
          areas-in_order l _ _ before
          added.ordered added.kinds;
      once = λ frame. omega (arith, rw (start, end) at (added.places frame), p.once frame, offline frame);
    }
