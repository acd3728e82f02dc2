-- A free block starts at a multiple of its size: the frames between two multiples start none.
use Rattle.std.proofs.Common.{◌≡◌, ℕ, zero, suc, ◌+◌, ◌-◌, ◌*◌, ◌%◌, ◌^◌, ◌<◌, ◌≤◌, false, sym, ◌∙◌, ap, subst, arith}
use Rattle.std.proofs.lemmas.Bool.{false_from_ne_true}
use Rattle.std.proofs.lemmas.Nat.{pow_pos, pow-add, mod-mul-add}
use Rattle.std.proofs.Math.Nat.{mul-le-mul_right}
use Rattle.hp_units.specs.declared.rows.Class.{Class}
use Rattle.hp_units.specs.LayoutParts.{LayoutParts}
use Rattle.hp_units.specs.Memory.{FreeAreas, free_list}
use Rattle.hp_units.specs.FreeAreas.{is_on}
use Rattle.hp_buddy.specs.Buddy.{AreApart}
use Rattle.hp_buddy.specs.Moves.{move_one}
use Rattle.hp_units.proofs.Places.{HasOrder}
use Rattle.hp_buddy.proofs.Apart.{has_order}
use Rattle.hp_buddy.proofs.Moves.{move_first, move_first-on}

-- a frame that starts no free block stays
stays : (m : FreeAreas) (from to : Class) (order x : ℕ) → is_on x (free_list m from order) ≡ false
    → move_one m from to order x ≡ m
stays m from to order x off = rw off

-- several frames that start no free block stay
pub skip : (a : FreeAreas) (from to : Class) (order first at more : ℕ) → HasOrder a order
    → ((j : ℕ) → j < more → is_on (first + (at + j)) (free_list a from order) ≡ false)
    → move_first a from to order first (at + more) ≡ move_first a from to order first at
skip a from to order first at zero has off =
    let sum : at + zero ≡ at = omega arith in ap (λ (n : ℕ). move_first a from to order first n) sum
skip a from to order first at (suc more) has off =
    let sum : at + suc more ≡ suc (at + more) = omega arith in
    ap (λ (n : ℕ). move_first a from to order first n) sum
    ∙ stays (move_first a from to order first (at + more)) from to order (first + (at + more))
    (move_first-on a from to order first (at + more) has ∙ off more (omega arith))
    ∙ skip a from to order first at more has (λ j low. off j (omega arith))

-- a pageblock is whole blocks of each order
pub whole : (order top : ℕ) → order ≤ top → 2 ^ (top - order) * 2 ^ order ≡ 2 ^ top
whole order top low =
    let sum : top - order + order ≡ top = omega arith in
    sym (pow-add 2 (top - order) order) ∙ ap (λ (n : ℕ). 2 ^ n) sum

-- a number between two multiples is no multiple
between : (size x r : ℕ) → 0 < r → r < size → (x * size + r) % size ≡ 0 → ⊥
between size x r some less is = let rest : r ≡ 0 = sym (mod-mul-add x size r less) ∙ is in omega arith

-- one block after another
pub stride : (l : LayoutParts) (a : FreeAreas) (from to : Class) (pageblock order at : ℕ) → order ≤ l.order
    → AreApart l a
    → move_first a from to order (pageblock * 2 ^ l.order) ((at + 1) * 2 ^ order)
    ≡ move_one (move_first a from to order (pageblock * 2 ^ l.order) (at * 2 ^ order)) from to order
    (pageblock * 2 ^ l.order + at * 2 ^ order)
stride l a from to pageblock order at low h =
    let size : ℕ = 2 ^ order in
    let first : ℕ = pageblock * 2 ^ l.order in
    let some : 0 < size = pow_pos order in
    let next : (at + 1) * size ≡ at * size + size = grind arith in
    let sum : (at + 1) * size ≡ suc (at * size) + (size - 1) = omega arith in
    let place : (j : ℕ)
    → first + (suc (at * size) + j) ≡ (pageblock * 2 ^ (l.order - order) + at) * size + suc j =
    λ j. placed (2 ^ (l.order - order)) size (2 ^ l.order) pageblock at j (whole order l.order low) in
    rw sum (skip a from to order first (suc (at * size)) (size - 1) (has_order l a order h low)
    (λ j less. false_from_ne_true (is_on (first + (suc (at * size) + j)) (free_list a from order))
    (λ on. between size (pageblock * 2 ^ (l.order - order) + at) (suc j) (omega arith) (omega arith)
    (subst (λ (n : ℕ). n % size ≡ 0) (place j) (h.aligned from order (first + (suc (at * size) + j)) on)))))
  where
    placed : (q size top pageblock at j : ℕ) → q * size ≡ top
        → pageblock * top + (suc (at * size) + j) ≡ (pageblock * q + at) * size + suc j
    placed q size top pageblock at j is = rw (← is) (grind arith)

-- a block that is not the last ends within the pageblock
pub ends-within : (l : LayoutParts) (order at : ℕ) → order ≤ l.order → at < 2 ^ (l.order - order)
    → at * 2 ^ order + 2 ^ order ≤ 2 ^ l.order
ends-within l order at low less =
    let next : (at + 1) * 2 ^ order ≡ at * 2 ^ order + 2 ^ order = grind arith in
    let up : at + 1 ≤ 2 ^ (l.order - order) = omega arith in
    omega (arith, mul-le-mul_right (2 ^ order) up, whole order l.order low)
