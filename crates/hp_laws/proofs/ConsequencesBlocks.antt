-- The free block that a free frame lies in, and pageblocks all of whose frames are free.
use Rattle.std.proofs.Common.{◌≡◌, ◌≢◌, ℕ, zero, suc, ◌+◌, ◌*◌, ◌/◌, ◌%◌, ◌^◌, ◌<◌, ◌≤◌, List, [], ◌∷◌, length, get_or, true, Option, Some, refl, sym, ◌∙◌, ap, subst, arith, inl, inr, ◌==◌}
use Rattle.std.proofs.lemmas.Bool.{cases_eq, cases_lt, both_ways, eq-eqb, or_left}
use Rattle.std.proofs.lemmas.Bool.Decides.{nat_tests}
use Rattle.std.proofs.lemmas.Nat.{pow_pos, shl-shr, div-add-mod'}
use Rattle.std.proofs.lemmas.Option.{same_Some}
use Rattle.std.proofs.Math.Nat.{lt-div-mul-add}
use Rattle.hp_units.specs.declared.rows.Class.{Class}
use Rattle.hp_units.specs.declared.rows.Class.TheVariants.{Nu, Nm, Mm, IsoN, IsoM}
use Rattle.hp_units.specs.LayoutParts.{LayoutParts}
use Rattle.hp_units.specs.Arithmetic.{buddy, pageblock_of}
use Rattle.hp_units.specs.Memory.{FreeAreas, free_list, with_free_list, class_index}
use Rattle.hp_units.specs.FreeAreas.{is_on}
use Rattle.hp_units.specs.Placement.{free_places, list_places, places_from, covered}
use Rattle.hp_laws.specs.Consequences.{IsFrameOf, IsInFreeBlock}
use Rattle.hp_units.proofs.Sizes.{with_free_list-size}
use Rattle.hp_units.proofs.Places.{HasOrder, class_index-lt, list_places-cons, with_free_list-places}
use Rattle.hp_laws.proofs.Ordered.{AreOrdered}
use Rattle.hp_units.proofs.Geometry.{buddy_above, buddy_even, buddy_odd, multiple, multiple_aligned, same_above}
use Rattle.hp_units.proofs.ListEdits.{free_list-apart, list_places-le, on-places, on_cases, on_tail}
use Rattle.hp_laws.proofs.Areas.{has_order, on_free}
use Rattle.hp_laws.proofs.Onlines.{quotient}

-- ---- the block that a frame lies in

-- the frames of a block are those that it covers
pub in_covered : (frame order first : ℕ) → IsFrameOf frame order first → covered frame order first ≡ 1
in_covered frame order first h = by_sides h.low h.high
  where
    by_sides : first ≤ frame → frame < first + 2 ^ order → covered frame order first ≡ 1
    by_sides low high = grind (arith, nat_tests)

-- and the other way round
pub covered_in : (frame order first : ℕ) → 1 ≤ covered frame order first → IsFrameOf frame order first
covered_in frame order first h = record { low = grind (arith, nat_tests); high = grind (arith, nat_tests) }

-- the first of a list is on it
pub on_head : (x : ℕ) (xs : List ℕ) → is_on x (x ∷ xs) ≡ true
on_head x xs = or_left (x == x) (is_on x xs) (eq-eqb x x refl)

-- a block of a list that has a frame
pub record HasOn (frame order : ℕ) (frames : List ℕ) : Type 0 where
  pub first : ℕ
  pub on : is_on first frames ≡ true
  pub within : IsFrameOf frame order first

-- a list with a place for a frame has a block with it
pub list_some : (frame order : ℕ) (frames : List ℕ) → 1 ≤ list_places frame order frames
    → HasOn frame order frames
list_some frame order [] some = absurd (omega arith)
list_some frame order (x ∷ xs) some = elim (cases_lt (covered frame order x) 1) [
  | inl none ↦
      let rest = list_some frame order xs (omega (arith, list_places-cons frame order x xs)) in
      record { first = rest.first; on = on_tail _ x xs rest.on; within = rest.within }
  | inr here ↦ record { first = x; on = on_head x xs; within = covered_in frame order x here }
]

-- and a list that has a block with a frame has a place for it
pub some_list : (frame order first : ℕ) (frames : List ℕ) → is_on first frames ≡ true
    → IsFrameOf frame order first → 1 ≤ list_places frame order frames
some_list frame order first [] on h = cc
some_list frame order first (x ∷ xs) on h = elim (on_cases first x xs on) [
  | inl same ↦
      omega (
        arith,
        list_places-cons frame order x xs,
        subst (λ (n : ℕ). covered frame order n ≡ 1) (sym same) (in_covered frame order first h),
      )
  | inr there ↦ omega (arith, list_places-cons frame order x xs, some_list frame order first xs there h)
]

-- a list that has a frame, by its number
record HasList (frame number : ℕ) (lists : List (List ℕ)) : Type 0 where
  pub at : ℕ
  pub low : at < length lists
  pub some : 1 ≤ list_places frame ((number + at) / 5) (get_or lists at [])

-- one of several lists has the frame
places_some : (frame number : ℕ) (lists : List (List ℕ)) → 1 ≤ places_from frame number lists
    → HasList frame number lists
places_some frame number [] some = absurd (omega arith)
places_some frame number (frames ∷ lists) some = elim (cases_lt (list_places frame (number / 5) frames) 1) [
  | inl none ↦
      let rest = places_some frame (number + 1) lists (omega arith) in
      let sum : number + 1 + rest.at ≡ number + suc rest.at = omega arith in
      record {
        at = suc rest.at;
        low = omega (arith, rest.low);
        some = rw (← sum) rest.some;
      }
  | inr here ↦
      let sum : number ≡ number + 0 = omega arith in
      record {
        at = 0;
        low = omega arith;
        some = rw (← sum) here;
      }
]

-- the class of a number
class_of_index : (n : ℕ) → n < 5 → (class : Class) × (class_index class ≡ n)
class_of_index zero low = (Nu, refl)
class_of_index (suc zero) low = (Nm, refl)
class_of_index (suc (suc zero)) low = (Mm, refl)
class_of_index (suc (suc (suc zero))) low = (IsoN, refl)
class_of_index (suc (suc (suc (suc zero)))) low = (IsoM, refl)
class_of_index (suc (suc (suc (suc (suc n))))) low = absurd (omega arith)

-- the free block that a frame lies in
pub free_block : (a : FreeAreas) (frame : ℕ) → 1 ≤ free_places a frame → IsInFreeBlock a frame
free_block a frame some =
    let list = places_some frame 0 a.lists some in
    let class = class_of_index (list.at % 5) (omega arith) in
    let order : ℕ = list.at / 5 in
    let start : 0 + list.at ≡ list.at = omega arith in
    let number : 5 * order + class_index class.0 ≡ list.at = omega (arith, class.1) in
    let found =
    list_some frame order _
    (subst (λ (n : ℕ). 1 ≤ list_places frame (n / 5) (get_or a.lists list.at [])) start list.some) in
    record {
      class = class.0;
      order = order;
      first = found.first;
      on = subst (λ (n : ℕ). is_on found.first (get_or a.lists n []) ≡ true) (sym number) found.on;
      within = found.within;
    }

-- a frame that a free block has is in a free place
pub block_free : (l : LayoutParts) (class_at : ℕ → Option Class) (a : FreeAreas) (frame : ℕ)
    → AreOrdered l class_at a → IsInFreeBlock a frame → 1 ≤ free_places a frame
block_free l class_at a frame h b =
    let here = on_free l _ a b.class b.order b.first h b.on in
    omega (
      arith,
      some_list frame b.order b.first _ b.on b.within,
      list_places-le a b.class b.order frame (has_order l _ a _ h here.low),
    )

-- a frame is in two places if blocks on two lists have it
pub two_lists : (a : FreeAreas) (class : Class) (order : ℕ) (c : Class) (o frame : ℕ) → HasOrder a order
    → HasOrder a o → order ≢ o
    → list_places frame order (free_list a class order) + list_places frame o (free_list a c o)
    ≤ free_places a frame
two_lists a class order c o frame has has_o ne =
    let low : class_index class < 5 = class_index-lt class in
    let lower : class_index c < 5 = class_index-lt c in
    let b : FreeAreas = with_free_list a class order [] in
    let other : free_list b c o ≡ free_list a c o =
    free_list-apart a class order [] c o (λ same. ne (omega arith)) in
    let has_b : HasOrder b o = has_set a class order o has_o in
    omega (
      arith,
      with_free_list-places a class order frame [] has,
      subst (λ (xs : List ℕ).
          list_places frame o xs ≤ free_places b frame) other (list_places-le b c o frame has_b),
    )
  where
    has_set : (a : FreeAreas) (class : Class) (order o : ℕ) → HasOrder a o
        → HasOrder (with_free_list a class order []) o
    has_set a class order o h = omega (arith, (with_free_list-size a class order []).lists)

-- ---- aligned blocks

-- an aligned block has the frames of one number
pub in_number : (frame order first : ℕ) → first % 2 ^ order ≡ 0 → IsFrameOf frame order first
    → frame / 2 ^ order ≡ first / 2 ^ order
in_number frame order first aligned h = quotient frame _ _ (omega (arith, h.low)) (omega (arith, h.high))

-- and the frames of one number are in the block
pub number_in : (frame order first : ℕ) → first % 2 ^ order ≡ 0 → frame / 2 ^ order ≡ first / 2 ^ order
    → IsFrameOf frame order first
number_in frame order first aligned same =
    let is : first ≡ first / 2 ^ order * 2 ^ order = multiple first order aligned in
    let high : frame < frame / 2 ^ order * 2 ^ order + 2 ^ order = lt-div-mul-add (pow_pos order) in
    let low : frame / 2 ^ order * 2 ^ order ≤ frame = omega (arith, div-add-mod' frame (2 ^ order)) in
    let both : frame / 2 ^ order * 2 ^ order ≡ first / 2 ^ order * 2 ^ order = rw same in
    record { low = omega arith; high = omega arith }

-- two aligned blocks of one order, of which one has the other's first frame, are one
pub in_aligned : (frame order first : ℕ) → frame % 2 ^ order ≡ 0 → first % 2 ^ order ≡ 0
    → IsFrameOf frame order first → first ≡ frame
in_aligned frame order first even aligned h =
    let same = in_number frame order first aligned h in
    multiple first order aligned ∙ ap (λ (n : ℕ). n * 2 ^ order) (sym same) ∙ sym (multiple frame order even)

-- a block's buddy is aligned as it is
pub buddy_aligned : (first order : ℕ) → first % 2 ^ order ≡ 0 → buddy first order % 2 ^ order ≡ 0
buddy_aligned first order aligned = elim (cases_eq (first / 2 ^ order % 2) 0) [
  | inl even ↦
      let is : first ≡ first / 2 ^ order / 2 * 2 * 2 ^ order =
      multiple first order aligned ∙ ap (λ (n : ℕ). n * 2 ^ order) (half_even _ even) in
      let next : first / 2 ^ order / 2 * 2 * 2 ^ order + 2 ^ order
      ≡ (first / 2 ^ order / 2 * 2 + 1) * 2 ^ order =
      grind arith in
      rw is (rw (buddy_even, next) (multiple_aligned _ order))
  | inr odd ↦
      let next : (first / 2 ^ order / 2 * 2 + 1) * 2 ^ order
      ≡ first / 2 ^ order / 2 * 2 * 2 ^ order + 2 ^ order =
      grind arith in
      let is : first ≡ first / 2 ^ order / 2 * 2 * 2 ^ order + 2 ^ order =
      multiple first order aligned ∙ ap (λ (n : ℕ). n * 2 ^ order) (half_odd _ odd) ∙ next in
      rw is (rw buddy_odd (multiple_aligned _ order))
]
  where
    half_even : (q : ℕ) → q % 2 ≡ 0 → q ≡ q / 2 * 2
    half_even q e = omega arith

    half_odd : (q : ℕ) → q % 2 ≢ 0 → q ≡ q / 2 * 2 + 1
    half_odd q ne = elim (cases_eq (q % 2) 1) [ inl one ↦ omega arith | inr other ↦ absurd (omega arith) ]

-- ---- pageblocks all of whose frames are free

-- a free block whose buddy is all free, in blocks no smaller, would have been joined with it
unjoined : (l : LayoutParts) (class_at : ℕ → Option Class) (a : FreeAreas) (class : Class) (order first : ℕ)
    → AreOrdered l class_at a → order < l.order
    → is_on first (free_list a class order) ≡ true → (other : IsInFreeBlock a (buddy first order))
    → pageblock_of l other.first ≡ pageblock_of l first → order ≤ other.order → ⊥
unjoined l class_at a class order first h below on other same above =
    let block = h.blocks class order first on in
    let its = h.blocks other.class other.order other.first other.on in
    let here = on_free l _ a _ _ _ h other.on in
    elim (cases_eq order other.order) [
      | inl is ↦
          let even : buddy first order % 2 ^ order ≡ 0 = buddy_aligned first order block.aligned in
          let that : other.first ≡ buddy first order = in_aligned _ order _ even
          (subst (λ (n : ℕ). other.first % 2 ^ n ≡ 0) (sym is) its.aligned)
          (subst (λ (n : ℕ). IsFrameOf (buddy first order) n other.first) (sym is) other.within) in
          let one : class ≡ other.class =
          same_Some class other.class (rw (← block.class_agrees, ← same, its.class_agrees)) in
          let joined : is_on (buddy first order) (free_list a class order) ≡ true =
          rw (← that, one, is) other.on in
          both_ways (is_on (buddy first order) (free_list a class order))
          (h.joined class order first below on) joined
      | inr ne ↦
          let greater : suc order ≤ other.order = omega arith in
          let one : buddy first order / 2 ^ other.order ≡ first / 2 ^ other.order =
          same_above _ first _ _ greater (buddy_above first order _ block.aligned (omega arith)) in
          let there : IsFrameOf first other.order other.first =
          number_in first _ _ its.aligned (sym one ∙ in_number _ _ _ its.aligned other.within) in
          absurd (omega (
            arith,
            two_lists a class order other.class other.order first (has_order l _ a order h
                (omega arith)) (has_order l _ a _ h here.low) ne,
            on-places first order _ on,
            some_list first other.order other.first (free_list a other.class other.order) other.on there,
            h.few first,
          ))
    ]

-- each free block of such a pageblock is of an order from one on
orders_from : (l : LayoutParts) (class_at : ℕ → Option Class) (a : FreeAreas) (pageblock order : ℕ)
    → AreOrdered l class_at a
    → ((frame : ℕ) → pageblock_of l frame ≡ pageblock → 1 ≤ free_places a frame) → order ≤ l.order
    → (class : Class) (o first : ℕ) → is_on first (free_list a class o) ≡ true
    → pageblock_of l first ≡ pageblock → order ≤ o
orders_from l class_at a pageblock zero h free low class o first on here = omega arith
orders_from l class_at a pageblock (suc order) h free low class o first on here = elim (cases_eq o order) [
  | inl same ↦
      let there : is_on first (free_list a class order) ≡ true = rw (← same) on in
      let beside : pageblock_of l (buddy first order) ≡ pageblock =
      buddy_above first order l.order (h.blocks class order first there).aligned low ∙ here in
      let other = free_block a _ (free (buddy first order) beside) in
      let its = h.blocks other.class other.order other.first other.on in
      let small = (on_free l _ a _ _ _ h other.on).low in
      let close : pageblock_of l other.first ≡ pageblock =
      sym (same_above _ _ _ _ small (in_number _ _ _ its.aligned other.within)) ∙ beside in
      absurd (unjoined l _ a class order first h (omega arith) there other (close ∙ sym here)
      (orders_from l _ a _ order h free (omega arith) _ _ _ other.on close))
  | inr ne ↦ omega (arith, orders_from l _ a _ order h free (omega arith) class o first on here)
]

-- such a pageblock is one free block of the greatest order
pub whole_pageblock : (l : LayoutParts) (class_at : ℕ → Option Class) (a : FreeAreas) (pageblock : ℕ)
    (class : Class)
    → AreOrdered l class_at a → class_at pageblock ≡ Some class
    → ((frame : ℕ) → pageblock_of l frame ≡ pageblock → 1 ≤ free_places a frame)
    → is_on (pageblock * 2 ^ l.order) (free_list a class l.order) ≡ true
whole_pageblock l class_at a pageblock class h is free =
    let start : ℕ = pageblock * 2 ^ l.order in
    let here : pageblock_of l start ≡ pageblock = shl-shr pageblock l.order in
    let block = free_block a start (free start here) in
    let its = h.blocks block.class block.order block.first block.on in
    let small = (on_free l _ a _ _ _ h block.on).low in
    let close : pageblock_of l block.first ≡ pageblock =
    sym (same_above start _ _ _ small (in_number start _ _ its.aligned block.within)) ∙ here in
    let large : l.order ≤ block.order = orders_from l _ a _ _ h free (omega arith) _ _ _ block.on close in
    let whole : block.order ≡ l.order = omega arith in
    let that : block.first ≡ start = in_aligned start _ _ (multiple_aligned _ _)
    (subst (λ (n : ℕ). block.first % 2 ^ n ≡ 0) whole its.aligned)
    (subst (λ (n : ℕ). IsFrameOf start n block.first) whole block.within) in
    let one : block.class ≡ class = same_Some block.class class (rw (← its.class_agrees, close, is)) in
    rw (← that) (rw (← one) (subst (λ (n : ℕ). is_on block.first (free_list a block.class n) ≡ true) whole
    block.on))
