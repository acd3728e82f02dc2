-- In how many free blocks a frame is, before and after a block is given.
use Rattle.std.proofs.lemmas.Bool.{or_parts, cases_Bool}
use Rattle.std.proofs.Common.{◌≡◌, ◌≢◌, ℕ, zero, suc, ◌+◌, ◌-◌, ◌*◌, ◌/◌, ◌^◌, ◌<◌, ◌≤◌, List, [], ◌∷◌, length, Bool, true, false, refl, sym, ◌∙◌, cond, arith, ◌⊎◌, inl, inr, add-zero, add-suc, eqb-true, ◌==◌}
use Rattle.std.proofs.lemmas.List.{get_or-set_other}
use Rattle.std.proofs.Math.Nat.{pow-suc, div-div-eq-div-mul}
use Rattle.hp_units.specs.declared.rows.Class.{Class}
use Rattle.hp_units.specs.declared.rows.Zone.{Zone}
use Rattle.hp_units.specs.LayoutParts.{LayoutParts}
use Rattle.hp_units.specs.Numbers.{ancestor}
use Rattle.hp_units.specs.Arithmetic.{buddy}
use Rattle.hp_units.specs.Memory.{FreeAreas, free_list, with_free_list, class_index}
use Rattle.hp_units.specs.FreeAreas.{is_on, without, without_free, join_order, without_buddies, give_block, class_of}
use Rattle.hp_units.specs.Placement.{list_places, free_places, covered}
use Rattle.hp_units.proofs.Geometry.{half_cases, xor_even, xor_odd, buddy-multiple}
use Rattle.hp_units.proofs.ListEdits.{covered-self, on-places, list_places-le}
use Rattle.hp_units.proofs.Sizes.{without_buddies-size}
use Rattle.hp_units.proofs.Places.{covered-halves, list_places-cons, HasOrder, with_free_list-places, with_front-places}

-- a block and its buddy are the two halves of the block above them
pub covered-buddies : (frame order q : ℕ)
    → covered frame order (q * 2 ^ order) + covered frame order (buddy (q * 2 ^ order) order)
    ≡ covered frame (suc order) (q / 2 * 2 ^ suc order)
covered-buddies frame order q = by_half (q / 2) (half_cases q)
  where
    by_half : (t : ℕ) → (q ≡ t * 2) ⊎ (q ≡ t * 2 + 1)
        → covered frame order (q * 2 ^ order) + covered frame order (buddy (q * 2 ^ order) order)
        ≡ covered frame (suc order) (t * 2 ^ suc order)
    by_half t (inl e) =
        let double : t * 2 * 2 ^ order ≡ t * 2 ^ suc order = rw pow-suc (grind arith) in
        let next : (t * 2 + 1) * 2 ^ order ≡ t * 2 ^ suc order + 2 ^ order = rw pow-suc (grind arith) in
        rw (e, buddy-multiple, xor_even, double, next) (sym (covered-halves frame order _))
    by_half t (inr e) =
        let double : t * 2 * 2 ^ order ≡ t * 2 ^ suc order = rw pow-suc (grind arith) in
        let next : (t * 2 + 1) * 2 ^ order ≡ t * 2 ^ suc order + 2 ^ order = rw pow-suc (grind arith) in
        rw (e, buddy-multiple, xor_odd, double, next)
        (omega (arith, covered-halves frame order (t * 2 ^ suc order)))

-- the same for the blocks that a frame lies in
pub covered-ancestors : (frame order first : ℕ)
    → covered frame order (ancestor first order) + covered frame order (buddy (ancestor first order) order)
    ≡ covered frame (suc order) (ancestor first (suc order))
covered-ancestors frame order first =
    let half : first / 2 ^ suc order ≡ first / 2 ^ order / 2 =
    rw pow-suc (sym (div-div-eq-div-mul first (2 ^ order) 2)) in
    rw half (covered-buddies frame order _)

-- ---- a free block leaves its list

-- a list without a frame that is not on it
pub is_on-none : (block : ℕ) (frames : List ℕ) → is_on block frames ≡ false → without block frames ≡ frames
is_on-none block [] e = refl
is_on-none block (x ∷ xs) e =
    let parts = or_parts (x == block) (is_on block xs) e in
    rw (parts.0, is_on-none block xs parts.1)

-- a block leaves a list
pub without-places : (frame order block : ℕ) (frames : List ℕ) → is_on block frames ≡ true
    → list_places block order frames ≤ 1
    → list_places frame order (without block frames) + covered frame order block
    ≡ list_places frame order frames
without-places frame order block [] on once = cc
without-places frame order block (x ∷ xs) on once = elim (cases_Bool (x == block)) [
  | inl same ↦ elim (cases_Bool (is_on block xs)) [
    | inl there ↦
        let two : 1 + list_places block order xs ≤ 1 =
        rw (list_places-cons, eqb-true x block same, covered-self) at once in
        absurd (omega (arith, on-places block order xs there))
    | inr none ↦ rw (same, is_on-none block xs none, list_places-cons, eqb-true x block same) (omega arith)
  ]
  | inr apart ↦
      let there : is_on block xs ≡ true = rw apart at on in
      let less : list_places block order xs ≤ 1 = omega (arith, once, list_places-cons block order x xs) in
      rw apart (omega (
        arith,
        without-places frame order block xs there less,
        list_places-cons frame order x xs,
        list_places-cons frame order x (without block xs),
      ))
]

-- the lists of other orders
pub free_list-other : (a : FreeAreas) (class : Class) (order other : ℕ) (frames : List ℕ) → order ≢ other
    → free_list (with_free_list a class order frames) class other ≡ free_list a class other
free_list-other a class order other frames ne =
    let apart : 5 * other + class_index class ≢ 5 * order + class_index class = omega arith in
    get_or-set_other a.lists (5 * order + class_index class) (5 * other + class_index class) frames [] apart

-- a free block leaves
pub without_free-places : (a : FreeAreas) (class : Class) (order block frame : ℕ) → HasOrder a order
    → free_places a block ≤ 1
    → is_on block (free_list a class order) ≡ true
    → free_places (without_free a class order block) frame + covered frame order block ≡ free_places a frame
without_free-places a class order block frame h once on =
    omega (
      arith,
      with_free_list-places a class order frame (without block (free_list a class order)) h,
      without-places frame order block _ on
          (omega (arith, list_places-le a class order block h)),
    )

-- a list without a block has at most as many blocks with a frame
pub without-le : (frame order block : ℕ) (frames : List ℕ)
    → list_places frame order (without block frames) ≤ list_places frame order frames
without-le frame order block [] = omega arith
without-le frame order block (x ∷ xs) =
    let rest = without-le frame order block xs in
    let more = list_places-cons frame order x xs in
    elim (cases_Bool (x == block)) [
      | inl same ↦ rw same (omega arith)
      | inr apart ↦ rw apart (omega (arith, list_places-cons frame order x (without block xs)))
    ]

-- ---- the buddies leave

-- without buddies a frame is in at most as many free blocks
pub without_buddies-le : (a : FreeAreas) (class : Class) (first order count frame : ℕ)
    → 5 * (order + count) ≤ length a.lists
    → free_places (without_buddies a class first order count) frame ≤ free_places a frame
without_buddies-le a class first order zero frame h = omega arith
without_buddies-le a class first order (suc count) frame h =
    let rest : FreeAreas = without_buddies a class first order count in
    let block : ℕ = buddy (ancestor first (order + count)) (order + count) in
    let size = without_buddies-size a class first order count in
    let has : HasOrder rest (order + count) = omega (arith, size.lists) in
    omega (
      arith,
      with_free_list-places rest class (order + count) frame
          (without block (free_list rest class (order + count))) has,
      without-le frame (order + count) block (free_list rest class (order + count)),
      without_buddies-le a class first order count frame (omega arith),
    )

-- at each of `count` orders from `order` on the frame's buddy is free
abbrev pub HasBuddies : FreeAreas → Class → (first order count : ℕ) → Type 0
HasBuddies a class first order count =
    (i : ℕ) → order ≤ i → i < order + count → is_on (buddy (ancestor first i) i) (free_list a class i) ≡ true

-- the lists of orders above
pub without_buddies-other : (a : FreeAreas) (class : Class) (first order count other : ℕ)
    → order + count ≤ other
    → free_list (without_buddies a class first order count) class other ≡ free_list a class other
without_buddies-other a class first order zero other h = refl
without_buddies-other a class first order (suc count) other h =
    free_list-other (without_buddies a class first order count) class (order + count) other _ (omega arith)
    ∙ without_buddies-other a class first order count other (omega arith)

-- the buddies and the block are the block joined
pub without_buddies-places : (a : FreeAreas) (class : Class) (first order count frame : ℕ)
    → 5 * (order + count) ≤ length a.lists
    → ((g : ℕ) → free_places a g ≤ 1) → HasBuddies a class first order count
    → free_places (without_buddies a class first order count) frame
    + covered frame (order + count) (ancestor first (order + count))
    ≡ free_places a frame + covered frame order (ancestor first order)
without_buddies-places a class first order zero frame h once buddies = rw add-zero refl
without_buddies-places a class first order (suc count) frame h once buddies =
    let at : ℕ = order + count in
    let rest : FreeAreas = without_buddies a class first order count in
    let block : ℕ = buddy (ancestor first (order + count)) (order + count) in
    let size = without_buddies-size a class first order count in
    let has : HasOrder rest (order + count) = omega (arith, size.lists) in
    let before : HasBuddies a class first order count = λ i low high. buddies i low (omega arith) in
    let here =
    rw (sym (without_buddies-other a class first order count (order + count) (omega arith))) at
    (buddies (order + count) (omega arith) (omega arith)) in
    let few : free_places rest block ≤ 1 =
    omega (arith, once block, without_buddies-le a class first order count block (omega arith)) in
    rw add-suc (omega (
      arith,
      without_free-places rest class _ block frame has few here,
      without_buddies-places a class first order count frame (omega arith) once before,
      covered-ancestors frame (order + count) first,
    ))

-- ---- the order that a block joins up to

-- the joined order lies from the first to the last, and at each order below it the buddy is free
pub record JoinsTo (a : FreeAreas) (class : Class) (first order count joined : ℕ) : Type 0 where
  pub low : order ≤ joined
  pub high : joined ≤ order + count
  pub buddies : (i : ℕ) → order ≤ i → i < joined
      → is_on (buddy (ancestor first i) i) (free_list a class i) ≡ true

-- the first order, or one above
pub order_cases : (order i : ℕ) → order ≤ i → (order ≡ i) ⊎ (suc order ≤ i)
order_cases order i h = grind arith

-- one order more
pub joins-step : (on : Bool) (a : FreeAreas) (class : Class) (first order count joined : ℕ)
    → is_on (buddy (ancestor first order) order) (free_list a class order) ≡ on
    → JoinsTo a class first (suc order) count joined
    → JoinsTo a class first order (suc count) (cond on joined order)
joins-step true a class first order count joined e h = record {
  low = omega (arith, h.low);
  high = omega (arith, h.high);
  buddies =
      λ i low high. elim (order_cases order i low) [
        | inl same ↦ rw (← same) e
        | inr above ↦ h.buddies i above high
      ];
}
joins-step false a class first order count joined e h =
    record { low = omega arith; high = omega arith; buddies = λ i low high. absurd (omega arith) }

-- `join_order` is that order
pub join_order-joins : (a : FreeAreas) (class : Class) (first order count : ℕ)
    → JoinsTo a class first order count (join_order a class first order count)
join_order-joins a class first order zero =
    record { low = omega arith; high = omega arith; buddies = λ i low high. absurd (omega arith) }
join_order-joins a class first order (suc count) =
    joins-step _ a class first order count _ refl (join_order-joins a class first _ count)

-- ---- a block comes back: its frames are in one free block more, and all others in as many
pub give_block-places : (l : LayoutParts) (a : FreeAreas) (zone : Zone) (first order frame : ℕ)
    → length a.lists ≡ 5 * (l.order + 1) → order ≤ l.order
    → ancestor first order ≡ first → ((g : ℕ) → free_places a g ≤ 1)
    → free_places (give_block l a zone first order) frame ≡ free_places a frame + covered frame order first
unfolding give_block
give_block-places l a zone first order frame size h aligned once =
    let class : Class = class_of l a zone first in
    let joined : ℕ = join_order a class first order (l.order - order) in
    let joins : JoinsTo a class first order (l.order - order) joined =
    join_order-joins a class first order (l.order - order) in
    let top : order + (joined - order) ≡ joined = omega (arith, joins.low) in
    let buddies : HasBuddies a class first order (joined - order) =
    λ i low high. joins.buddies i low (omega (arith, joins.low)) in
    let left =
    rw (top, aligned) at (without_buddies-places a class first order (joined - order) frame
    (omega (arith, joins.low, joins.high)) once buddies) in
    let has : HasOrder (without_buddies a class first order (joined - order)) joined =
    omega (arith, (without_buddies-size a class first order (joined - order)).lists, joins.high) in
    omega (
      arith,
      left,
      with_front-places (without_buddies a class first order (joined - order)) class joined
          (ancestor first joined) frame has,
    )
