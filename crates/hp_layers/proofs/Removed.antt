-- Pageblocks that leave the free areas.
use Rattle.std.proofs.Common.{◌≡◌, ◌≢◌, ℕ, suc, ◌+◌, ◌*◌, ◌/◌, ◌%◌, ◌^◌, ◌<◌, ◌≤◌, List, length, true, sym, ◌∙◌, ap, arith}
use Rattle.std.proofs.lemmas.Nat.{pow_pos, shl-shr}
use Rattle.std.proofs.Math.Nat.{mod-eq_of_lt, mul-le-mul_right, mul_assoc, suc-mul}
use Rattle.hp_units.specs.declared.rows.Class.{Class}
use Rattle.hp_units.specs.declared.rows.Zone.{Zone}
use Rattle.hp_units.specs.LayoutParts.{LayoutParts, IsLayout}
use Rattle.hp_units.specs.Arithmetic.{frame_count, pageblock_count}
use Rattle.hp_units.specs.FreeAreas.{is_on, without}
use Rattle.hp_units.specs.Isolation.{remove_pageblock}
use Rattle.hp_units.specs.Memory.{FreeAreas, free_list, isolated_class}
use Rattle.hp_laws.proofs.Offlined.{on_without-other}
use Rattle.hp_units.proofs.ListEdits.{free_list-cases}

-- the first frame of a pageblock, as it is computed, is one of the layout
pub first-within : (l k : LayoutParts) (pageblock number order : ℕ) → IsLayout l → k ≡ l
    → pageblock < pageblock_count l → order ≡ l.order → number ≡ pageblock
    → number * 2 ^ order % 4294967296 < frame_count k
first-within l k pageblock number order layout same low order_is number_is =
    rw same (let is : number * 2 ^ order ≡ pageblock * 2 ^ l.order = rw (number_is, order_is) in
    let some : 0 < 2 ^ l.order = pow_pos l.order in
    let more : suc pageblock * 2 ^ l.order ≤ l.blocks * l.pageblocks * 2 ^ l.order =
    mul-le-mul_right {m = suc pageblock} {n = l.blocks * l.pageblocks} (2 ^ l.order) low in
    let inside : pageblock * 2 ^ l.order < frame_count l =
    omega
    (arith, more, some, suc-mul pageblock (2 ^ l.order), mul_assoc l.blocks l.pageblocks (2 ^ l.order)) in
    let small : number * 2 ^ order < 4294967296 = omega (arith, is, inside, layout.frames) in
    omega (arith, mod-eq_of_lt small, is, inside))

-- the other free pageblocks stay where they are
pub removed-stays : (l k : LayoutParts) (zone : Zone) (a b : FreeAreas) (pageblock other : ℕ) → k ≡ l
    → b ≡ remove_pageblock k zone a pageblock → 5 * l.order + 5 ≤ length a.lists → other ≢ pageblock
    → is_on (other * 2 ^ l.order) (free_list a (isolated_class zone) l.order) ≡ true
    → is_on (other * 2 ^ l.order) (free_list b (isolated_class zone) l.order) ≡ true
removed-stays l k zone a b pageblock other same is has ne on =
    let class : Class = isolated_class zone in
    let first : ℕ = pageblock * 2 ^ l.order in
    let frame : ℕ = other * 2 ^ l.order in
    let here : b ≡ remove_pageblock l zone a pageblock = rw (is, same) in
    let apart : frame ≢ first =
    λ e. ne (sym (shl-shr other l.order) ∙ ap (λ (n : ℕ). n / 2 ^ l.order) e ∙ shl-shr pageblock l.order) in
    rw here (free_list-cases (λ (d : Class) (n : ℕ) (xs : List ℕ). is_on frame (free_list a d n) ≡ true →
    is_on frame xs ≡ true) a class l.order (without first (free_list a class l.order)) has
    (on_without-other frame first (free_list a class l.order) apart) (λ d n e. e) class l.order on)
