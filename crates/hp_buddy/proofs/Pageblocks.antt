-- A pageblock's free blocks at all orders: they move at once, and there are no more than frames.
use Rattle.std.proofs.Common.{◌≡◌, ◌≢◌, ℕ, zero, suc, ◌+◌, ◌-◌, ◌*◌, ◌/◌, ◌^◌, ◌<◌, ◌≤◌, List, [], ◌==◌, length, Bool, true, false, not, cond, refl, sym, ◌∙◌, ap, subst, arith, inl, inr, eq-eqb, ne_eqb}
use Rattle.std.specs.Prelude.{filter}
use Rattle.std.proofs.lemmas.Bool.{cases_eq, false_from_ne_true}
use Rattle.std.proofs.lemmas.Bool.Decides.{nat_tests}
use Rattle.std.proofs.lemmas.List.{get_or-set_other}
use Rattle.std.proofs.lemmas.List.Elements.{filter_agree}
use Rattle.std.proofs.lemmas.Nat.{pow_pos, div_below, le-div}
use Rattle.std.proofs.Math.Nat.{lt-div-mul-add, div-mul-le_self, mul-le-mul_right}
use Rattle.hp_units.specs.declared.rows.Class.{Class}
use Rattle.hp_units.specs.declared.rows.Kind.{Kind}
use Rattle.hp_units.specs.declared.rows.Zone.{Zone}
use Rattle.hp_units.specs.LayoutParts.{LayoutParts}
use Rattle.hp_units.specs.Arithmetic.{frame_count, pageblock_count, pageblock_of, pageblock_size}
use Rattle.hp_units.specs.Memory.{FreeAreas, free_list, with_free_list, with_kind, kind_of, class_index}
use Rattle.hp_units.specs.FreeAreas.{is_on, class_of_kind}
use Rattle.hp_units.specs.Isolation.{move_free, move_free_below, move_pageblock}
use Rattle.hp_units.specs.Placement.{free_places}
use Rattle.hp_buddy.specs.Buddy.{AreApart}
use Rattle.hp_buddy.specs.Moves.{free_one, free_count}
use Rattle.hp_units.proofs.Sizes.{with_free_list-size}
use Rattle.hp_units.proofs.Places.{HasOrder, class_index-lt, with_free_list-places}
use Rattle.hp_units.proofs.ListEdits.{on-places, off-free}
use Rattle.hp_buddy.proofs.Apart.{has_order, kind-apart}
use Rattle.hp_buddy.proofs.Moves.{Moves, moves-then, move_first, move_first-moves, is_among, staying, move_first-parted, move_first-on}

-- ---- the frames of a pageblock

-- a frame is in a pageblock exactly if it lies from its first frame up to the next pageblock's
among-pageblock : (f size pageblock : ℕ) → 0 < size
    → is_among (pageblock * size) size f ≡ (f / size == pageblock)
among-pageblock f size pageblock some = elim (cases_eq (f / size) pageblock) [
  | inl same ↦
      let low : pageblock * size ≤ f = subst (λ (q : ℕ). q * size ≤ f) same (div-mul-le_self f size) in
      let high : f < pageblock * size + size = rw (← same) (lt-div-mul-add {a = f} some) in
      inside f (pageblock * size) size low high ∙ sym (eq-eqb (f / size) pageblock same)
  | inr other ↦
      false_from_ne_true (is_among (pageblock * size) size f)
      (λ yes_.
      let low : pageblock * size ≤ f = above f (pageblock * size) size yes_ in
      let high : f < pageblock * size + size = below f (pageblock * size) size yes_ in
      let up : pageblock ≤ f / size = le-div pageblock f size some low in
      let next : pageblock * size + size ≡ (pageblock + 1) * size = grind arith in
      let down : f / size < pageblock + 1 = div_below f size (pageblock + 1) some (omega arith) in
      other (omega arith))
      ∙ sym (ne_eqb (f / size) pageblock other)
]
  where
    inside : (f first size : ℕ) → first ≤ f → f < first + size → is_among first size f ≡ true
    inside f first size low high = grind (arith, nat_tests)

    above : (f first size : ℕ) → is_among first size f ≡ true → first ≤ f
    above f first size e = grind (arith, nat_tests)

    below : (f first size : ℕ) → is_among first size f ≡ true → f < first + size
    below f first size e = grind (arith, nat_tests)

-- moving one at a time moves a pageblock's free blocks of an order
pub move_free-first : (l : LayoutParts) (a : FreeAreas) (from to : Class) (pageblock order : ℕ)
    → HasOrder a order
    → move_first a from to order (pageblock * pageblock_size l) (pageblock_size l)
    ≡ move_free l a from to pageblock order
move_free-first l a from to pageblock order has =
    let first : ℕ = pageblock * 2 ^ l.order in
    let size : ℕ = 2 ^ l.order in
    let frames : List ℕ = free_list a from order in
    let stay : staying frames first size ≡ filter (λ frame. not (pageblock_of l frame == pageblock)) frames =
    filter_agree (λ f. not (is_among first size f)) (λ frame. not (pageblock_of l frame == pageblock))
    (λ f. ap not (among-pageblock f size pageblock (pow_pos l.order))) frames in
    rw (move_first-parted a from to order first size has, stay)

-- ---- the lists of other orders

-- lists of other orders have other numbers
pub other-order : (class c : Class) (order o : ℕ) → order ≢ o
    → 5 * o + class_index c ≢ 5 * order + class_index class
other-order class c order o ne same = ne (omega (arith, class_index-lt class, class_index-lt c))

-- moving an order leaves the others
move_free-other : (l : LayoutParts) (a : FreeAreas) (from to : Class) (pageblock order : ℕ) (c : Class)
    (o : ℕ)
    → order ≢ o → free_list (move_free l a from to pageblock order) c o ≡ free_list a c o
move_free-other l a from to pageblock order c o ne =
    get_or-set_other _ (5 * order + class_index to) (5 * o + class_index c) _ [] (other-order to c order o ne)
    ∙ get_or-set_other a.lists (5 * order + class_index from) (5 * o + class_index c) _ []
    (other-order from c order o ne)

-- the orders above those that moved are as before
pub move_free_below-other : (l : LayoutParts) (a : FreeAreas) (from to : Class) (pageblock count : ℕ)
    (c : Class) (o : ℕ)
    → count ≤ o
    → free_list (move_free_below l a from to pageblock count) c o ≡ free_list a c o
move_free_below-other l a from to pageblock zero c o h = refl
move_free_below-other l a from to pageblock (suc count) c o h =
    move_free-other l (move_free_below l a from to pageblock count) from to pageblock count c o
    (λ same. omega arith)
    ∙ move_free_below-other l a from to pageblock count c o (omega arith)

-- moving keeps the free blocks apart
pub move_free-moves : (l : LayoutParts) (a : FreeAreas) (from to : Class) (pageblock order : ℕ)
    → order ≤ l.order → AreApart l a → Moves l a (move_free l a from to pageblock order)
move_free-moves l a from to pageblock order low h =
    rw (← move_free-first l a from to pageblock order (has_order l a order h low))
    (move_first-moves l a from to order (pageblock * pageblock_size l) (pageblock_size l) low h)

-- the same for the lowest `count` orders
pub move_free_below-moves : (l : LayoutParts) (a : FreeAreas) (from to : Class) (pageblock count : ℕ)
    → count ≤ l.order + 1 → AreApart l a → Moves l a (move_free_below l a from to pageblock count)
move_free_below-moves l a from to pageblock zero low h = record { apart = h; places = λ frame. refl }
move_free_below-moves l a from to pageblock (suc count) low h =
    let before = move_free_below-moves l a from to pageblock count (omega arith) h in
    moves-then l a (move_free_below l a from to pageblock count)
    (move_free_below l a from to pageblock (suc count)) before
    (move_free-moves l (move_free_below l a from to pageblock count) from to pageblock count (omega arith)
    before.apart)

-- the same for a whole pageblock
pub move_pageblock-moves : (l : LayoutParts) (zone : Zone) (isolated : Bool) (a : FreeAreas) (pageblock : ℕ)
    → AreApart l a → Moves l a (move_pageblock l zone isolated a pageblock)
unfolding move_pageblock
move_pageblock-moves l zone isolated a pageblock h =
    let kind : Kind = kind_of a pageblock in
    let moved : Kind = record kind { isolated = isolated } in
    let below =
    move_free_below-moves l a (class_of_kind zone kind) (class_of_kind zone moved) pageblock (l.order + 1)
    (omega arith) h in
    record {
      apart =
          kind-apart l (move_free_below l a (class_of_kind zone kind) (class_of_kind zone moved) pageblock
          (l.order + 1)) pageblock moved below.apart;
      places = below.places;
    }

-- ---- no more free blocks than frames

-- equal lists have equally many free blocks
count-same : (a b : FreeAreas) (class : Class) (order first count : ℕ)
    → free_list a class order ≡ free_list b class order
    → free_count a class order first count ≡ free_count b class order first count
count-same a b class order first zero e = refl
count-same a b class order first (suc count) e =
    let more : free_one a class order (first + count) ≡ free_one b class order (first + count) = rw e in
    omega (arith, count-same a b class order first count e)

-- as many when the turn of an order comes
pub below-count : (l : LayoutParts) (a : FreeAreas) (from to : Class) (pageblock order first count : ℕ)
    → free_count (move_free_below l a from to pageblock order) from order first count
    ≡ free_count a from order first count
below-count l a from to pageblock order first count =
    count-same (move_free_below l a from to pageblock order) a from order first count
    (move_free_below-other l a from to pageblock order from order (omega arith))

-- how many orders below one have a free block that starts at a frame
orders_at : FreeAreas → Class → (frame order : ℕ) → ℕ
orders_at a class frame zero = 0
orders_at a class frame (suc order) = orders_at a class frame order + free_one a class order frame

-- a frame with a block of one order starts none of another
lone : (a : FreeAreas) (class : Class) (order other frame : ℕ) → HasOrder a order → HasOrder a other
    → order ≢ other → free_places a frame ≤ 1
    → is_on frame (free_list a class order) ≡ true → is_on frame (free_list a class other) ≡ false
lone a class order other frame has has_other ne once on =
    let gone : FreeAreas = with_free_list a class order [] in
    let some = on-places frame order (free_list a class order) on in
    let none : free_places gone frame ≡ 0 =
    omega (arith, with_free_list-places a class order frame [] has, some) in
    rw (← get_or-set_other a.lists (5 * order + class_index class) (5 * other + class_index class) [] []
    (other-order class class order other ne)) (off-free gone class other frame
    (omega (arith, (with_free_list-size a class order []).lists, has_other)) none)

-- no order below has a free block at the frame
orders-none : (a : FreeAreas) (class : Class) (frame order : ℕ)
    → ((o : ℕ) → o < order → is_on frame (free_list a class o) ≡ false) → orders_at a class frame order ≡ 0
unfolding orders_at
orders-none a class frame zero off = refl
orders-none a class frame (suc order) off =
    let here : free_one a class order frame ≡ 0 = ap (λ (b : Bool). cond b 1 0) (off order (omega arith)) in
    omega (arith, orders-none a class frame order (λ o low. off o (omega arith)))

-- at most one order
orders-le : (a : FreeAreas) (class : Class) (frame order : ℕ) → 5 * order ≤ length a.lists
    → free_places a frame ≤ 1 → orders_at a class frame order ≤ 1
unfolding orders_at
orders-le a class frame zero has once = omega arith
orders-le a class frame (suc order) has once =
    step (is_on frame (free_list a class order)) refl (orders-le a class frame order (omega arith) once)
  where
    step : (on : Bool) → is_on frame (free_list a class order) ≡ on → orders_at a class frame order ≤ 1
        → orders_at a class frame order + cond on 1 0 ≤ 1
    step true e h =
        let none : orders_at a class frame order ≡ 0 = orders-none a class frame order
        (λ o low. lone a class order o frame (omega arith) (omega arith) (λ same. omega arith) once e) in
        omega arith
    step false e h = omega arith

-- how many free blocks of the orders below `order` start at the `count` frames from `first` on
abbrev pub free_total : FreeAreas → Class → (first count order : ℕ) → ℕ
free_total a class first count zero = 0
free_total a class first count (suc order) =
    free_total a class first count order + free_count a class order first count

-- of no frames
total-none : (a : FreeAreas) (class : Class) (first order : ℕ) → free_total a class first 0 order ≡ 0
total-none a class first zero = refl
total-none a class first (suc order) = omega (arith, total-none a class first order)

-- of one frame more
total-more : (a : FreeAreas) (class : Class) (first count order : ℕ)
    → free_total a class first (suc count) order
    ≡ free_total a class first count order + orders_at a class (first + count) order
unfolding orders_at
total-more a class first count zero = refl
total-more a class first count (suc order) = omega (arith, total-more a class first count order)

-- at most one block for each frame
pub total-le : (l : LayoutParts) (a : FreeAreas) (class : Class) (first count order : ℕ) → order ≤ l.order + 1
    → AreApart l a → free_total a class first count order ≤ count
total-le l a class first zero order low h = omega (arith, total-none a class first order)
total-le l a class first (suc count) order low h =
    omega (
      arith,
      total-more a class first count order,
      total-le l a class first count order low h,
      orders-le a class (first + count) order (omega (arith, h.areas.lists)) (h.once (first + count)),
    )

-- ---- one frame after another

-- a frame of a pageblock of the layout is a frame
pub frame_in : (l : LayoutParts) (pageblock at : ℕ) → pageblock < pageblock_count l → at < pageblock_size l
    → pageblock * pageblock_size l + at < frame_count l
frame_in l pageblock at low below =
    let size : ℕ = 2 ^ l.order in
    let turned : l.blocks * (l.pageblocks * 2 ^ l.order) ≡ l.blocks * l.pageblocks * 2 ^ l.order =
    grind arith in
    let next : (pageblock + 1) * size ≡ pageblock * size + size = grind arith in
    let up : pageblock + 1 ≤ l.blocks * l.pageblocks = omega arith in
    omega (arith, mul-le-mul_right size up)

-- more frames have at least as many free blocks
pub count-le : (a : FreeAreas) (class : Class) (order first count more : ℕ)
    → free_count a class order first count ≤ free_count a class order first (count + more)
count-le a class order first count zero = let same : count + 0 ≡ count = omega arith in rw same (omega arith)
count-le a class order first count (suc more) =
    let same : count + suc more ≡ suc (count + more) = omega arith in
    rw same (omega (arith, count-le a class order first count more))

-- the same with the next frame, which is still within
pub count-within : (a : FreeAreas) (class : Class) (order first at count : ℕ) → at < count
    → free_count a class order first at + free_one a class order (first + at)
    ≤ free_count a class order first count
count-within a class order first at count low =
    let sum : suc at + (count - suc at) ≡ count = omega arith in
    rw (← sum) (count-le a class order first (suc at) (count - suc at))

-- whether a frame is free when its turn comes
pub one-same : (a now : FreeAreas) (from to : Class) (order first at frame : ℕ) → HasOrder a order
    → now ≡ move_first a from to order first at → frame ≡ first + at
    → free_one now from order frame ≡ free_one a from order (first + at)
one-same a now from to order first at frame has is place =
    rw (is, place, move_first-on a from to order first at has)

-- ---- one order after another

-- the blocks of one more order have moved
pub below_next : (l : LayoutParts) (a now new : FreeAreas) (from to : Class) (pageblock order : ℕ)
    → now ≡ move_free_below l a from to pageblock order
    → new ≡ move_free l now from to pageblock order → new ≡ move_free_below l a from to pageblock (order + 1)
below_next l a now new from to pageblock order is moved =
    let next : suc order ≡ order + 1 = omega arith in
    rw (moved, is) (ap (λ (n : ℕ). move_free_below l a from to pageblock n) next)

-- the count with one more order
pub total_next : (a : FreeAreas) (class : Class) (first count order : ℕ)
    → free_total a class first count (order + 1)
    ≡ free_total a class first count order + free_count a class order first count
total_next a class first count order = let next : order + 1 ≡ suc order = omega arith in rw next refl

-- and then the kind changes
pub pageblock_moved : (l : LayoutParts) (zone : Zone) (isolated : Bool) (a mid new : FreeAreas)
    (pageblock : ℕ) (kind moved : Kind) (from to : Class)
    → kind ≡ kind_of a pageblock
    → moved ≡ record kind { isolated = isolated } → from ≡ class_of_kind zone kind
    → to ≡ class_of_kind zone moved → mid ≡ move_free_below l a from to pageblock (l.order + 1)
    → new ≡ with_kind mid pageblock moved → new ≡ move_pageblock l zone isolated a pageblock
unfolding move_pageblock
pageblock_moved l zone isolated a mid new pageblock kind moved from to kind_is moved_is from_is to_is is
    set_is = rw (set_is, is, from_is, to_is, moved_is, kind_is)

-- how many blocks of an order are free when its turn comes
pub order_count : (l m : LayoutParts) (a now : FreeAreas) (from to : Class) (pageblock order : ℕ) → m ≡ l
    → now ≡ move_free_below l a from to pageblock order
    → free_count now from order (pageblock * pageblock_size m) (pageblock_size m)
    ≡ free_count a from order (pageblock * pageblock_size l) (pageblock_size l)
order_count l m a now from to pageblock order same is =
    rw (same, is) (below-count l a from to pageblock order (pageblock * pageblock_size l) (pageblock_size l))
