-- Taking a block keeps the areas in order.
use Rattle.std.proofs.Common.{◌≡◌, ℕ, ◌+◌, ◌-◌, ◌≤◌, List, [], ◌∷◌, true, Option, Some, None, refl, sym, subst, arith, IfSome, eq-eqb, ◌==◌}
use Rattle.std.specs.Option.{option_and_then}
use Rattle.std.proofs.lemmas.Bool.{or_left}
use Rattle.hp_units.specs.declared.rows.Class.{Class}
use Rattle.hp_units.specs.LayoutParts.{LayoutParts}
use Rattle.hp_units.specs.Memory.{FreeAreas, free_list, with_free_list}
use Rattle.hp_units.specs.FreeAreas.{Taken, is_on, take_first, take_front, take_block}
use Rattle.hp_units.specs.Placement.{free_places, IsBlockOf, covered}
use Rattle.hp_units.proofs.Places.{list_places-cons, with_free_list-places, with_halves-places, least_order-among, IsOrderAmong}
use Rattle.hp_units.proofs.Geometry.{below_aligned}
use Rattle.hp_units.proofs.ListParts.{IsPart, tail-part}
use Rattle.hp_units.proofs.Sizes.{halves-kinds}
use Rattle.hp_laws.proofs.Ordered.{AreOrdered}
use Rattle.hp_laws.proofs.Areas.{has_order, part-ordered, halves-ordered}

-- what was taken: the areas stay in order, its frames leave their places, and it was a block of the
-- class
pub record TakesOrdered (l : LayoutParts) (class_at : ℕ → Option Class) (a : FreeAreas) (class : Class)
    (wanted : ℕ) (taken : Taken) : Type 0 where
  pub ordered : AreOrdered l class_at taken.areas
  pub places : (frame : ℕ)
      → free_places taken.areas frame + covered frame wanted taken.frame ≡ free_places a frame
  pub block : IsBlockOf l class_at class wanted taken.frame
  pub kinds : taken.areas.kinds ≡ a.kinds

pub take_first-ordered : (l : LayoutParts) (class_at : ℕ → Option Class) (a : FreeAreas) (class : Class)
    (order wanted : ℕ) (frames : List ℕ)
    → free_list a class order ≡ frames
    → order ≤ l.order → wanted ≤ order → AreOrdered l class_at a
    → IfSome (take_first a class class order wanted frames) (TakesOrdered l class_at a class wanted)
take_first-ordered l class_at a class order wanted [] e low w h = tt
take_first-ordered l class_at a class order wanted (first ∷ frames) e low w h =
    let left : FreeAreas = with_free_list a class order frames in
    let on : is_on first (free_list a class order) ≡ true =
    rw e (or_left (first == first) (is_on first frames) (eq-eqb first first refl)) in
    let block : IsBlockOf l class_at class order first = h.blocks class order first on in
    let part = subst (λ (xs : List ℕ). IsPart order frames xs) (sym e) (tail-part order first frames) in
    let ordered : AreOrdered l class_at left = part-ordered l class_at a class order frames low part h in
    let sum : wanted + (order - wanted) ≡ order = omega arith in
    let without : (frame : ℕ) → free_places left frame + covered frame order first ≡ free_places a frame =
    λ frame. omega (
      arith,
      rw e at (with_free_list-places a class order frame frames (has_order l _ a order h low)),
      list_places-cons frame order first frames,
    ) in
    let room : (frame : ℕ) → free_places left frame + covered frame (wanted + (order - wanted)) first ≤ 1 =
    rw sum (λ frame. omega (arith, without frame, h.few frame)) in
    let block' : IsBlockOf l class_at class (wanted + (order - wanted)) first = rw sum block in
    record {
      ordered =
          halves-ordered l _ left class first wanted _ (omega arith) block' room
          ordered;
      places = λ frame.
          let halves =
          rw sum at (with_halves-places left class first wanted (order - wanted) frame
          (omega (arith, ordered.lists))) in
          omega (arith, halves, without frame);
      block =
          record {
            aligned = below_aligned wanted _ first block'.aligned;
            class_agrees = block.class_agrees;
          };
      kinds = halves-kinds left class first wanted (order - wanted);
    }

pub and_then-ordered : (P : Taken → Type 0) (first count : ℕ) (f : ℕ → Option Taken) (o : Option ℕ)
    → IfSome o (IsOrderAmong first count)
    → ((order : ℕ) → IsOrderAmong first count order → IfSome (f order) P) → IfSome (option_and_then f o) P
and_then-ordered P first count f None h k = tt
and_then-ordered P first count f (Some order) h k = k order h

pub take_block-ordered : (l : LayoutParts) (class_at : ℕ → Option Class) (a : FreeAreas) (class : Class)
    (wanted : ℕ)
    → AreOrdered l class_at a
    → IfSome (take_block l a class wanted) (TakesOrdered l class_at a class wanted)
unfolding take_block
take_block-ordered l class_at a class wanted h =
    and_then-ordered _ wanted _ (λ order. take_front a class class order wanted) _
    (least_order-among a class wanted _) (λ order among. take_first-ordered l _ a class order wanted _ refl
    (omega (arith, among.low, among.high)) among.low h)
