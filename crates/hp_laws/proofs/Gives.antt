-- Giving a block back keeps the areas in order.
use Rattle.std.proofs.Common.{◌≡◌, ℕ, zero, suc, ◌+◌, ◌-◌, ◌%◌, ◌^◌, ◌<◌, ◌≤◌, Bool, true, false, cond, Option, Some, refl, ◌∙◌, ap, arith}
use Rattle.hp_units.specs.declared.rows.Class.{Class}
use Rattle.hp_units.specs.declared.rows.Zone.{Zone}
use Rattle.hp_units.specs.LayoutParts.{LayoutParts}
use Rattle.hp_units.specs.Numbers.{ancestor}
use Rattle.hp_units.specs.Arithmetic.{buddy, pageblock_of}
use Rattle.hp_units.specs.Memory.{FreeAreas, free_list}
use Rattle.hp_units.specs.FreeAreas.{is_on, without_buddies, join_order, give_block, class_of}
use Rattle.hp_units.specs.Placement.{free_places, covered}
use Rattle.hp_units.proofs.Joins.{without_buddies-places, HasBuddies, JoinsTo, join_order-joins, without_buddies-other}
use Rattle.hp_units.proofs.Geometry.{ancestor_above, aligned_ancestor, multiple_aligned}
use Rattle.hp_units.proofs.Sizes.{buddies-kinds}
use Rattle.hp_units.proofs.ListParts.{without-part}
use Rattle.hp_laws.proofs.Ordered.{AreOrdered}
use Rattle.hp_laws.proofs.Areas.{part-ordered, front-ordered}

pub without_buddies-ordered : (l : LayoutParts) (class_at : ℕ → Option Class) (a : FreeAreas) (class : Class)
    (first order count : ℕ)
    → order + count ≤ l.order + 1
    → AreOrdered l class_at a → AreOrdered l class_at (without_buddies a class first order count)
without_buddies-ordered l class_at a class first order zero low h = h
without_buddies-ordered l class_at a class first order (suc count) low h =
    let rest : FreeAreas = without_buddies a class first order count in
    part-ordered l _ rest class _ _ (omega arith) (without-part _ _ _)
    (without_buddies-ordered l _ a class first order count (omega arith) h)

-- where joining stops short of the last order, the buddy isn't free
stops-step : (on : Bool) (a : FreeAreas) (class : Class) (first order joined last : ℕ)
    → is_on (buddy (ancestor first order) order) (free_list a class order) ≡ on
    → (joined < last → is_on (buddy (ancestor first joined) joined) (free_list a class joined) ≡ false)
    → cond on joined order < last
    → is_on (buddy (ancestor first (cond on joined order)) (cond on joined order))
    (free_list a class (cond on joined order)) ≡ false
stops-step true a class first order joined last e h below = h below
stops-step false a class first order joined last e h below = e

pub join_order-stops : (a : FreeAreas) (class : Class) (first order count last : ℕ) → last ≡ order + count
    → join_order a class first order count < last
    → is_on (buddy (ancestor first (join_order a class first order count)) (join_order a class first order
    count)) (free_list a class (join_order a class first order count)) ≡ false
join_order-stops a class first order zero last e below = absurd (omega arith)
join_order-stops a class first order (suc count) last e below =
    stops-step _ a class first order _ last refl
    (join_order-stops a class first _ count last (omega arith)) below

pub give_block-kinds : (l : LayoutParts) (a : FreeAreas) (zone : Zone) (first order : ℕ)
    → (give_block l a zone first order).kinds ≡ a.kinds
unfolding give_block
give_block-kinds l a zone first order =
    buddies-kinds a (class_of l a zone first) first order
    (join_order a (class_of l a zone first) first order (l.order - order) - order)

pub give_block-ordered : (l : LayoutParts) (class_at : ℕ → Option Class) (a : FreeAreas) (zone : Zone)
    (first order : ℕ)
    → order ≤ l.order → first % 2 ^ order ≡ 0
    → class_at (pageblock_of l first) ≡ Some (class_of l a zone first)
    → ((frame : ℕ) → free_places a frame + covered frame order first ≤ 1)
    → AreOrdered l class_at a → AreOrdered l class_at (give_block l a zone first order)
unfolding give_block
give_block-ordered l class_at a zone first order low aligned agrees room h =
    let class : Class = class_of l a zone first in
    let joined : ℕ = join_order a class first order (l.order - order) in
    let joins : JoinsTo a class first order (l.order - order) joined =
    join_order-joins a class first order _ in
    let top : order + (joined - order) ≡ joined = omega (arith, joins.low) in
    let buddies : HasBuddies a class first order (joined - order) =
    λ i below high. joins.buddies i below (omega (arith, joins.low)) in
    let rest : FreeAreas = without_buddies a class first order (joined - order) in
    let places : (frame : ℕ)
    → free_places rest frame + covered frame joined (ancestor first joined)
    ≡ free_places a frame + covered frame order first =
    λ frame. rw (top, aligned_ancestor first order aligned) at (without_buddies-places a class first order
    _ frame (omega (arith, h.lists, joins.low, joins.high)) h.few buddies) in
    let same : free_list rest class joined ≡ free_list a class joined =
    without_buddies-other a class first order (joined - order) joined (omega (arith, joins.low)) in
    front-ordered l _ rest class joined _ (omega (arith, joins.high))
    (record {
      aligned = multiple_aligned _ joined;
      class_agrees = ap class_at (ancestor_above first joined _ (omega (arith, joins.high))) ∙ agrees;
    })
    (λ frame. omega (arith, places frame, room frame))
    (λ below. rw same (join_order-stops a class first order _ _ (omega arith) below))
    (without_buddies-ordered l class_at a class first order (joined - order)
    (omega (arith, joins.low, joins.high)) h)
