-- A pageblock that is one free block: none of its frames starts another.
use Rattle.std.proofs.Common.{◌≡◌, ℕ, zero, suc, ◌+◌, ◌*◌, ◌^◌, ◌<◌, ◌≤◌, [], Bool, true, false, cond, refl, sym, ◌∙◌, ap, arith}
use Rattle.std.proofs.lemmas.List.{get_or-set_other}
use Rattle.hp_units.specs.declared.rows.Class.{Class}
use Rattle.hp_units.specs.LayoutParts.{LayoutParts}
use Rattle.hp_units.specs.Arithmetic.{pageblock_size}
use Rattle.hp_units.specs.Memory.{FreeAreas, free_list, class_index}
use Rattle.hp_units.specs.FreeAreas.{is_on, without, without_free}
use Rattle.hp_units.specs.Isolation.{move_free, move_free_below}
use Rattle.hp_buddy.specs.Buddy.{AreApart}
use Rattle.hp_buddy.specs.Moves.{move_one, free_one}
use Rattle.hp_units.proofs.ListEdits.{off-free}
use Rattle.hp_buddy.proofs.Apart.{has_order}
use Rattle.hp_buddy.proofs.Moves.{move_first, taken_out}
use Rattle.hp_buddy.proofs.Pageblocks.{below_next, move_free-first, other-order}
use Rattle.hp_buddy.proofs.Strides.{skip, stride}

-- whether a pageblock is one free block of a class
abbrev pub IsWhole : LayoutParts → FreeAreas → Class → (pageblock : ℕ) → Type 0
IsWhole l a class pageblock = is_on (pageblock * pageblock_size l) (free_list a class l.order) ≡ true

-- a frame of such a pageblock starts no free block of a lower order
lower-off : (l : LayoutParts) (a : FreeAreas) (class : Class) (pageblock order f : ℕ) → order < l.order
    → AreApart l a → IsWhole l a class pageblock
    → pageblock * pageblock_size l ≤ f → f < pageblock * pageblock_size l + 2 ^ l.order
    → is_on f (free_list a class order) ≡ false
lower-off l a class pageblock order f low h whole from below =
    let first : ℕ = pageblock * pageblock_size l in
    let gone : FreeAreas = without_free a class l.order first in
    let out = taken_out l a class l.order first (omega arith) whole h in
    let same : free_list gone class order ≡ free_list a class order =
    get_or-set_other a.lists (5 * l.order + class_index class) (5 * order + class_index class)
    (without first (free_list a class l.order)) []
    (other-order class class l.order order (λ e. omega arith)) in
    rw (← same) (off-free gone class order f (has_order l gone order out.apart (omega arith))
    (out.block.unfree f from below))

-- so nothing of a lower order moves
lower-stays : (l : LayoutParts) (a : FreeAreas) (from to : Class) (pageblock order : ℕ) → order < l.order
    → AreApart l a → IsWhole l a from pageblock → move_free l a from to pageblock order ≡ a
lower-stays l a from to pageblock order low h whole =
    let first : ℕ = pageblock * pageblock_size l in
    let has = has_order l a order h (omega arith) in
    let sum : 0 + pageblock_size l ≡ pageblock_size l = omega arith in
    sym (move_free-first l a from to pageblock order has)
    ∙ sym (ap (λ (n : ℕ). move_first a from to order first n) sum)
    ∙ skip a from to order first 0 (pageblock_size l) has
    (λ j less. lower-off l a from pageblock order (first + (0 + j)) low h whole (omega arith) (omega arith))

-- nor does anything of all lower orders
lowers-stay : (l : LayoutParts) (a : FreeAreas) (from to : Class) (pageblock count : ℕ) → count ≤ l.order
    → AreApart l a → IsWhole l a from pageblock → move_free_below l a from to pageblock count ≡ a
lowers-stay l a from to pageblock zero low h whole = refl
lowers-stay l a from to pageblock (suc count) low h whole =
    rw (lowers-stay l a from to pageblock count (omega arith) h whole)
    (lower-stays l a from to pageblock count (omega arith) h whole)

-- the whole block moves
greatest-moves : (l : LayoutParts) (a : FreeAreas) (from to : Class) (pageblock : ℕ) → AreApart l a
    → move_one a from to l.order (pageblock * pageblock_size l) ≡ move_free l a from to pageblock l.order
greatest-moves l a from to pageblock h =
    let first : ℕ = pageblock * pageblock_size l in
    let one : (0 + 1) * 2 ^ l.order ≡ 2 ^ l.order = grind arith in
    let none : first + 0 * 2 ^ l.order ≡ first = grind arith in
    let start : 0 * 2 ^ l.order ≡ 0 = grind arith in
    sym (ap (λ (n : ℕ). move_one a from to l.order n) none)
    ∙ sym (ap (λ (n : ℕ). move_one (move_first a from to l.order first n) from to l.order
    (first + 0 * 2 ^ l.order)) start)
    ∙ sym (stride l a from to pageblock l.order 0 (omega arith) h)
    ∙ ap (λ (n : ℕ). move_first a from to l.order first n) one
    ∙ move_free-first l a from to pageblock l.order (has_order l a l.order h (omega arith))

-- all of the pageblock has moved
pub whole-moved : (l : LayoutParts) (a after : FreeAreas) (from to : Class) (pageblock order first : ℕ)
    → order ≡ l.order → first ≡ pageblock * pageblock_size l → AreApart l a → IsWhole l a from pageblock
    → after ≡ move_one a from to order first
    → after ≡ move_free_below l a from to pageblock (l.order + 1)
whole-moved l a after from to pageblock order first order_is first_is h whole moved =
    below_next l a a after from to pageblock l.order
    (sym (lowers-stay l a from to pageblock l.order (omega arith) h whole))
    (rw (moved, order_is, first_is) (greatest-moves l a from to pageblock h))

-- at most one block starts at a frame
pub one-le : (a : FreeAreas) (class : Class) (order frame : ℕ) → free_one a class order frame ≤ 1
one-le a class order frame = step (is_on frame (free_list a class order))
  where
    step : (on : Bool) → cond on 1 0 ≤ 1
    step true = omega arith
    step false = omega arith
