-- In how many free blocks a frame is, before and after blocks are taken and given.
use Rattle.std.proofs.Common.{◌≡◌, ℕ, zero, suc, ◌+◌, ◌*◌, ◌/◌, ◌^◌, ◌<◌, ◌≤◌, List, [], ◌∷◌, length, get_or, set, Option, Some, None, refl, cond, arith, IfSome, add-zero, ◌⊎◌, inl, inr}
use Rattle.std.proofs.lemmas.List.Sums.{sum_by-cons}
use Rattle.std.proofs.lemmas.Bool.Decides.{nat_tests}
use Rattle.std.proofs.Math.Nat.{pow-suc}
use Rattle.hp_units.specs.declared.rows.Class.{Class}
use Rattle.hp_units.specs.declared.rows.Class.TheVariants.{Nu}
use Rattle.hp_units.specs.Memory.{FreeAreas, free_list, with_free_list, class_index}
use Rattle.hp_units.specs.FreeAreas.{with_front, with_halves, order_or, least_order, greatest_order}
use Rattle.hp_units.specs.Placement.{covers, list_places, places_from, free_places, covered}
use Rattle.hp_units.proofs.Sizes.{with_halves-size}

-- one more block on a list
pub list_places-cons : (frame order first : ℕ) (frames : List ℕ)
    → list_places frame order (first ∷ frames) ≡ covered frame order first + list_places frame order frames
list_places-cons frame order first frames = sum_by-cons (λ x. cond (covers frame order x) 1 0) first frames

-- a block has the frame if one of its halves has it
pub covered-halves : (frame order first : ℕ)
    → covered frame (suc order) first ≡ covered frame order first + covered frame order (first + 2 ^ order)
covered-halves frame order first =
    rw (pow-suc 2 order) (grind (arith, nat_tests))

-- another list at one place
pub places_from-set : (frame number i m : ℕ) (lists : List (List ℕ)) (frames : List ℕ) → m ≡ number + i
    → i < length lists
    → places_from frame number (set lists i frames) + list_places frame (m / 5) (get_or lists i [])
    ≡ places_from frame number lists + list_places frame (m / 5) frames
places_from-set frame number i m [] frames e h = absurd (omega arith)
places_from-set frame number zero m (x ∷ xs) frames e h =
    let same : m ≡ number = omega arith in
    rw same (omega arith)
places_from-set frame number (suc i) m (x ∷ xs) frames e h =
    omega (arith, places_from-set frame (number + 1) i m xs frames (omega arith) (omega arith))

-- a class has one of five indices
pub class_index-lt : (class : Class) → class_index class < 5
class_index-lt Nu = omega arith
class_index-lt _ = omega arith

-- the lists go up to an order
abbrev pub HasOrder : FreeAreas → ℕ → Type 0
HasOrder a order = 5 * order + 5 ≤ length a.lists

-- another list of a class and an order
pub with_free_list-places : (a : FreeAreas) (class : Class) (order frame : ℕ) (frames : List ℕ)
    → HasOrder a order
    → free_places (with_free_list a class order frames) frame + list_places frame order
    (free_list a class order) ≡ free_places a frame + list_places frame order frames
with_free_list-places a class order frame frames h =
    let low : class_index class < 5 = class_index-lt class in
    let place : (5 * order + class_index class) / 5 ≡ order = omega arith in
    rw place at (places_from-set frame 0 (5 * order + class_index class) (5 * order + class_index class)
    a.lists frames (omega arith) (omega arith))

-- a block at the front
pub with_front-places : (a : FreeAreas) (class : Class) (order first frame : ℕ) → HasOrder a order
    → free_places (with_front a class order first) frame ≡ free_places a frame + covered frame order first
with_front-places a class order first frame h =
    omega (
      arith,
      with_free_list-places a class order frame (first ∷ free_list a class order) h,
      list_places-cons frame order first (free_list a class order),
    )

-- the halves of a block, and the rest of it, have the frames that the block has
pub with_halves-places : (a : FreeAreas) (class : Class) (first last count frame : ℕ)
    → 5 * (last + count) ≤ length a.lists
    → free_places (with_halves a class first last count) frame + covered frame last first
    ≡ free_places a frame + covered frame (last + count) first
with_halves-places a class first last zero frame h = rw add-zero refl
with_halves-places a class first last (suc count) frame h =
    let size = with_halves-size a class first (suc last) count in
    let has : HasOrder (with_halves a class first (suc last) count) last = omega (arith, size.lists) in
    let sum : last + suc count ≡ suc last + count = omega arith in
    rw sum (omega (
      arith,
      with_front-places (with_halves a class first (suc last) count) class last (first + 2 ^ last) frame has,
      with_halves-places a class first (suc last) count frame (omega arith),
      covered-halves frame last first,
    ))

-- the least order lies among the orders that were looked at
pub record IsOrderAmong (first count order : ℕ) : Type 0 where
  pub low : first ≤ order
  pub high : order < first + count

-- one order more
pub order_or-among : (frames : List ℕ) (first count : ℕ) (other : Option ℕ)
    → IfSome other (IsOrderAmong (suc first) count)
    → IfSome (order_or frames first other) (IsOrderAmong first (suc count))
order_or-among [] first count None h = tt
order_or-among _ first count _ h = record { low = omega arith; high = omega arith }

-- the least order
pub least_order-among : (a : FreeAreas) (class : Class) (first count : ℕ)
    → IfSome (least_order a class first count) (IsOrderAmong first count)
least_order-among a class first zero = tt
least_order-among a class first (suc count) =
    order_or-among _ first count _ (least_order-among a class (suc first) count)

-- a block has its frames
pub covered-in : (frame order first : ℕ) → first ≤ frame → frame < first + 2 ^ order
    → covered frame order first ≡ 1
covered-in frame order first low high = grind (arith, nat_tests)

-- and no others
pub covered-out : (frame order first : ℕ) → (frame < first) ⊎ (first + 2 ^ order ≤ frame)
    → covered frame order first ≡ 0
covered-out frame order first (inl below) = grind (arith, nat_tests)
covered-out frame order first (inr above) = grind (arith, nat_tests)

-- the greatest order lies among the orders that were looked at
pub greatest_order-among : (a : FreeAreas) (class : Class) (first count : ℕ)
    → IfSome (greatest_order a class first count) (IsOrderAmong first count)
greatest_order-among a class first zero = tt
greatest_order-among a class first (suc count) = step _ _ (greatest_order-among a class first count)
  where
    step : (frames : List ℕ) (other : Option ℕ) → IfSome other (IsOrderAmong first count)
        → IfSome (order_or frames (first + count) other) (IsOrderAmong first (suc count))
    step [] None h = tt
    step [] (Some order) h = record { low = omega (arith, h.low); high = omega (arith, h.high) }
    step (frame ∷ frames) other h = record { low = omega arith; high = omega arith }
