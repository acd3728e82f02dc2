-- The searches for an order, one order at a time.
use Rattle.std.proofs.Common.{◌≡◌, ℕ, suc, ◌+◌, ◌-◌, ◌*◌, ◌^◌, ◌<◌, ◌≤◌, List, [], ◌∷◌, length, Bool, false, cond, Option, Some, ◌==◌, refl, sym, ◌∙◌, subst, arith, inl, inr, eq-eqb, ne_eqb}
use Rattle.std.proofs.lemmas.Bool.{cases_eq, false_from_ne_true}
use Rattle.hp_units.specs.declared.rows.Class.{Class}
use Rattle.hp_units.specs.declared.rows.Kind.{Kind}
use Rattle.hp_units.specs.LayoutParts.{LayoutParts}
use Rattle.hp_units.specs.Numbers.{ancestor}
use Rattle.hp_units.specs.Arithmetic.{buddy}
use Rattle.hp_units.specs.Memory.{FreeAreas, free_list, class_index}
use Rattle.hp_units.specs.FreeAreas.{is_on, order_or, least_order, greatest_order, join_order, with_front, with_halves, without_free, without_buddies}
use Rattle.hp_buddy.specs.LinkedLists.{LinkedLists, IsOn, IsUnlisted, IsApart}
use Rattle.hp_buddy.specs.Buddy.{BuddyValue}
use Rattle.hp_buddy.proofs.Linked.{contains_on}
use Rattle.hp_buddy.proofs.Notes.{Seen}
use Rattle.hp_buddy.proofs.Standing.{seen-on}

-- an order whose list is empty is skipped
pub order_or-empty : (frames : List ℕ) (order len : ℕ) (other : Option ℕ) → len ≡ length frames → len ≤ 0
    → order_or frames order other ≡ other
order_or-empty [] order len other e none = refl
order_or-empty (frame ∷ frames) order len other e none = absurd (omega arith)

-- an order whose list has a block is the result
pub order_or-some : (frames : List ℕ) (order len : ℕ) (other : Option ℕ) → len ≡ length frames → 0 < len
    → order_or frames order other ≡ Some order
order_or-some [] order len other e some = absurd (omega arith)
order_or-some (frame ∷ frames) order len other e some = refl

-- one more order of the search for the least one
pub least_order-more : (a : FreeAreas) (class : Class) (order end : ℕ) → order < end
    → least_order a class order (end - order)
    ≡ order_or (free_list a class order) order (least_order a class (order + 1) (end - (order + 1)))
least_order-more a class order end h =
    let less : end - order ≡ suc (end - (order + 1)) = omega arith in
    let next : order + 1 ≡ suc order = omega arith in
    rw (less, next) refl

-- one more order of the search for the greatest one
pub greatest_order-more : (a : FreeAreas) (class : Class) (first order : ℕ) → first ≤ order
    → greatest_order a class first (order + 1 - first)
    ≡ order_or (free_list a class order) order (greatest_order a class first (order - first))
greatest_order-more a class first order h =
    let less : order + 1 - first ≡ suc (order - first) = omega arith in
    let sum : first + (order - first) ≡ order = omega arith in
    rw (less, sum) refl

-- an order whose buddy is free is joined
pub join_order-more : (a : FreeAreas) (class : Class) (frame order end : ℕ) → order < end
    → join_order a class frame order (end - order)
    ≡ cond (is_on (buddy (ancestor frame order) order) (free_list a class order))
    (join_order a class frame (order + 1) (end - (order + 1))) order
join_order-more a class frame order end h =
    let less : end - order ≡ suc (end - (order + 1)) = omega arith in
    let next : order + 1 ≡ suc order = omega arith in
    rw (less, next) refl

-- the same, by whether the buddy is free
pub join_order-on : (a : FreeAreas) (class : Class) (frame order end half other : ℕ) (on : Bool) → order < end
    → half ≡ ancestor frame order → other ≡ buddy half order
    → on ≡ is_on other (free_list a class order)
    → join_order a class frame order (end - order)
    ≡ cond on (join_order a class frame (order + 1) (end - (order + 1))) order
join_order-on a class frame order end half other on h half_is other_is on_is =
    let place : other ≡ buddy (ancestor frame order) order = rw (other_is, half_is) in
    rw (join_order-more a class frame order end h, ← place, ← on_is)

-- one more buddy that is joined
pub without_buddies-more : (a : FreeAreas) (class : Class) (frame first order : ℕ) → first ≤ order
    → without_buddies a class frame first (order + 1 - first)
    ≡ without_free (without_buddies a class frame first (order - first)) class order
    (buddy (ancestor frame order) order)
without_buddies-more a class frame first order h =
    let less : order + 1 - first ≡ suc (order - first) = omega arith in
    let sum : first + (order - first) ≡ order = omega arith in
    rw (less, sum) refl

-- one more half of a block that is split down
pub with_halves-more : (a : FreeAreas) (class : Class) (frame half order : ℕ) → half < order
    → with_halves a class frame half (order - half)
    ≡ with_front (with_halves a class frame (half + 1) (order - (half + 1))) class half (frame + 2 ^ half)
with_halves-more a class frame half order h =
    let less : order - half ≡ suc (order - (half + 1)) = omega arith in
    let next : half + 1 ≡ suc half = omega arith in
    rw (less, next) refl

-- ---- whether a block is free, by the list that it is on

-- of a frame on a list
pub seen-is_free : (v : BuddyValue) (l : LayoutParts) (links : LinkedLists) (kinds : List Kind)
    (class : Class) (order f k n : ℕ)
    → Seen v l links kinds → IsOn links k f → IsApart links
    → n ≡ 5 * order + class_index class → (k == n) ≡ is_on f (free_list v.areas class order)
seen-is_free v l links kinds class order f k n s on apart number = elim (cases_eq k n) [
  | inl same ↦
      eq-eqb k n same
      ∙ sym (rw (← s.is) (contains_on f _ (subst (λ (m : ℕ). IsOn links m f) (same ∙ number) on)))
  | inr other ↦
      ne_eqb k n other
      ∙ sym (false_from_ne_true (is_on f (free_list v.areas class order)) (λ there. other
      (apart.one_list k (5 * order + class_index class) f on (seen-on v l links kinds class order f s there)
      ∙ sym number)))
]

-- of a frame on none
pub seen-not_free : (v : BuddyValue) (l : LayoutParts) (links : LinkedLists) (kinds : List Kind)
    (class : Class) (order f : ℕ)
    → Seen v l links kinds → IsUnlisted links f
    → false ≡ is_on f (free_list v.areas class order)
seen-not_free v l links kinds class order f s none =
    sym (false_from_ne_true (is_on f (free_list v.areas class order))
    (λ there. none (5 * order + class_index class) (seen-on v l links kinds class order f s there)))
