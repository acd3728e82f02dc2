-- A block that is taken is split, and what is left lies apart.
use Rattle.std.proofs.Common.{◌≡◌, ℕ, zero, suc, ◌+◌, ◌-◌, ◌*◌, ◌^◌, ◌≤◌, List, [], ◌∷◌, Bool, true, false, cond, Option, Some, None, refl, sym, subst, arith, inl, IfSome, add-zero, eq-eqb, ◌==◌}
use Rattle.std.specs.Option.{option_map, option_and_then}
use Rattle.std.proofs.lemmas.Bool.{or_left}
use Rattle.std.proofs.Math.Nat.{pow-suc}
use Rattle.hp_units.specs.declared.rows.Class.{Class}
use Rattle.hp_units.specs.declared.rows.Mobility.{Mobility}
use Rattle.hp_units.specs.declared.rows.Zone.TheVariants.{Normal as NormalZone}
use Rattle.hp_units.specs.LayoutParts.{LayoutParts}
use Rattle.hp_units.specs.Arithmetic.{pageblock_of}
use Rattle.hp_units.specs.Memory.{FreeAreas, free_list, with_free_list, kind_of, usable_class}
use Rattle.hp_units.specs.FreeAreas.{Taken, is_on, with_front, with_halves, least_order, greatest_order, take_first, take_front, take_block, steal_front, steal_block, with_mobility, other_mobility}
use Rattle.hp_units.specs.Placement.{free_places, covered}
use Rattle.hp_units.proofs.Places.{list_places-cons, HasOrder, with_free_list-places, with_front-places, with_halves-places, least_order-among, IsOrderAmong, covered-in, covered-out, greatest_order-among}
use Rattle.hp_units.proofs.Geometry.{upper_half}
use Rattle.hp_units.proofs.ListParts.{IsPart, tail-part}
use Rattle.hp_buddy.specs.Buddy.{AreApart, MayBeGiven, HasBlockMore}
use Rattle.hp_buddy.proofs.Apart.{has_order, part-apart, front-apart, kind-apart}

-- ---- the halves of a block that is in no free block

-- the upper half is in no free block, and the lower one stays so when the upper one is free
pub record IsSplit (l : LayoutParts) (a : FreeAreas) (class : Class) (last first : ℕ) : Type 0 where
  pub upper : MayBeGiven l a last (first + 2 ^ last)
  pub lower : MayBeGiven l (with_front a class last (first + 2 ^ last)) last first

-- a block is split in two
pub split : (l : LayoutParts) (a : FreeAreas) (class : Class) (last first : ℕ)
    → MayBeGiven l a (suc last) first → AreApart l a → IsSplit l a class last first
split l a class last first block h =
    let double : 2 ^ suc last ≡ 2 ^ last * 2 = pow-suc 2 last in
    let half = upper_half first last l.order block.aligned block.in_order in
    let has : HasOrder a last = has_order l a last h (omega (arith, block.in_order)) in
    record {
      upper = record {
        in_order = omega (arith, block.in_order);
        aligned = half.aligned;
        within = omega (arith, block.within);
        unfree = λ frame low high. block.unfree frame (omega arith) (omega arith);
      };
      lower = record {
        in_order = omega (arith, block.in_order);
        aligned = half.lower_aligned;
        within = omega (arith, block.within);
        unfree = λ frame low high.
            omega (
              arith,
              with_front-places a class last (first + 2 ^ last) frame has,
              block.unfree frame low (omega arith),
              covered-out frame last (first + 2 ^ last) (inl high),
            );
      };
    }

-- what is left of a block lies apart, and the rest of it is in no free block
pub record IsLeft (l : LayoutParts) (a : FreeAreas) (last first : ℕ) : Type 0 where
  pub apart : AreApart l a
  pub rest : MayBeGiven l a last first

-- a block is split down
pub halves-left : (l : LayoutParts) (a : FreeAreas) (class : Class) (first last count : ℕ)
    → MayBeGiven l a (last + count) first → AreApart l a
    → IsLeft l (with_halves a class first last count) last first
halves-left l a class first last zero block h =
    record { apart = h; rest = subst (λ (n : ℕ). MayBeGiven l a n first) (add-zero last) block }
halves-left l a class first last (suc count) block h =
    let sum : last + suc count ≡ suc last + count = omega arith in
    let above : IsLeft l (with_halves a class first (suc last) count) (suc last) first =
    halves-left l a class first (suc last) count (subst (λ (n : ℕ). MayBeGiven l a n first) sum block) h in
    let both = split l (with_halves a class first (suc last) count) class last first above.rest above.apart in
    record {
      apart =
          front-apart l (with_halves a class first (suc last) count) class last (first + 2 ^ last) both.upper
          above.apart;
      rest = both.lower;
    }

-- ---- the front block of a list leaves

-- the front block is on its list
pub front_on : (first : ℕ) (frames xs : List ℕ) → xs ≡ first ∷ frames → is_on first xs ≡ true
front_on first frames xs e = rw e (or_left (first == first) (is_on first frames) (eq-eqb first first refl))

-- without the front block its frames are in one free block less
pub tail-places : (a : FreeAreas) (class : Class) (order first frame : ℕ) (frames : List ℕ)
    → free_list a class order ≡ first ∷ frames → HasOrder a order
    → free_places (with_free_list a class order frames) frame + covered frame order first
    ≡ free_places a frame
tail-places a class order first frame frames e has =
    omega (
      arith,
      rw e at (with_free_list-places a class order frame frames has),
      list_places-cons frame order first frames,
    )

-- and then the front block is in no free block
pub tail-left : (l : LayoutParts) (a : FreeAreas) (class : Class) (order first : ℕ) (frames : List ℕ)
    → free_list a class order ≡ first ∷ frames → order ≤ l.order → AreApart l a
    → IsLeft l (with_free_list a class order frames) order first
tail-left l a class order first frames e low h =
    let on : is_on first (free_list a class order) ≡ true =
    front_on first frames (free_list a class order) e in
    let has : HasOrder a order = has_order l a order h low in
    record {
      apart =
          part-apart l a class order frames low
          (subst (λ (xs : List ℕ). IsPart order frames xs) (sym e) (tail-part order first frames)) h;
      rest = record {
        in_order = low;
        aligned = h.aligned class order first on;
        within = h.areas.free class order first on;
        unfree =
            λ frame below above. omega (
              arith,
              tail-places a class order first frame frames e has,
              h.once frame,
              covered-in frame order first below above,
            );
      };
    }

-- ---- a block is taken

-- what is left lies apart, and the frames of the block taken are in no free block and were in one
pub record Takes (l : LayoutParts) (a : FreeAreas) (wanted : ℕ) (taken : Taken) : Type 0 where
  pub apart : AreApart l taken.areas
  pub block : MayBeGiven l taken.areas wanted taken.frame
  pub places : HasBlockMore a taken.areas wanted taken.frame

-- the front block of a list is taken
pub take_first-takes : (l : LayoutParts) (a : FreeAreas) (class rest : Class) (order wanted : ℕ)
    (frames : List ℕ)
    → free_list a class order ≡ frames → order ≤ l.order → wanted ≤ order → AreApart l a
    → IfSome (take_first a class rest order wanted frames) (Takes l a wanted)
take_first-takes l a class rest order wanted [] e low w h = tt
take_first-takes l a class rest order wanted (first ∷ frames) e low w h =
    let left : FreeAreas = with_free_list a class order frames in
    let front : IsLeft l left order first = tail-left l a class order first frames e low h in
    let sum : wanted + (order - wanted) ≡ order = omega arith in
    let halves =
    halves-left l left rest first wanted (order - wanted)
    (subst (λ (n : ℕ). MayBeGiven l left n first) (sym sum) front.rest) front.apart in
    record {
      apart = halves.apart;
      block = halves.rest;
      places = λ frame.
          let split_places =
          rw sum at (with_halves-places left rest first wanted (order - wanted) frame
          (omega (arith, front.apart.areas.lists))) in
          omega
          (arith, split_places, tail-places a class order first frame frames e (has_order l a order h low));
    }

-- a block of the order found is taken
and_then-takes : (P : Taken → Type 0) (first count : ℕ) (f : ℕ → Option Taken) (o : Option ℕ)
    → IfSome o (IsOrderAmong first count)
    → ((order : ℕ) → IsOrderAmong first count order → IfSome (f order) P) → IfSome (option_and_then f o) P
and_then-takes P first count f None h k = tt
and_then-takes P first count f (Some order) h k = k order h

-- taking keeps the free blocks apart
pub take_block-takes : (l : LayoutParts) (a : FreeAreas) (class : Class) (wanted : ℕ) → AreApart l a
    → IfSome (take_block l a class wanted) (Takes l a wanted)
unfolding take_block
take_block-takes l a class wanted h =
    and_then-takes (Takes l a wanted) wanted (l.order + 1 - wanted)
    (λ order. take_front a class class order wanted) (least_order a class wanted (l.order + 1 - wanted))
    (least_order-among a class wanted (l.order + 1 - wanted))
    (λ order among. take_first-takes l a class class order wanted (free_list a class order) refl
    (omega (arith, among.low, among.high)) among.low h)

-- ---- a block is stolen

-- with another mobility
with_mobility-takes : (l : LayoutParts) (a : FreeAreas) (mobility : Mobility) (wanted : ℕ) (o : Option Taken)
    → IfSome o (Takes l a wanted) → IfSome (option_map (with_mobility l mobility) o) (Takes l a wanted)
with_mobility-takes l a mobility wanted None h = tt
with_mobility-takes l a mobility wanted (Some taken) h = record {
  apart =
      kind-apart l taken.areas (pageblock_of l taken.frame)
      (record (kind_of taken.areas (pageblock_of l taken.frame)) { mobility = mobility }) h.apart;
  block =
      record {
        in_order = h.block.in_order;
        aligned = h.block.aligned;
        within = h.block.within;
        unfree = h.block.unfree;
      };
  places = h.places;
}

-- either way
cond-takes : (P : Taken → Type 0) (b : Bool) (x y : Option Taken) → IfSome x P → IfSome y P
    → IfSome (cond b x y) P
cond-takes P true x y h k = h
cond-takes P false x y h k = k

-- stealing keeps the free blocks apart
pub steal_block-takes : (l : LayoutParts) (a : FreeAreas) (mobility : Mobility) (wanted : ℕ) → AreApart l a
    → IfSome (steal_block l a mobility wanted) (Takes l a wanted)
unfolding steal_block
steal_block-takes l a mobility wanted h =
    let from : Class = usable_class NormalZone (other_mobility mobility) in
    let to : Class = usable_class NormalZone mobility in
    and_then-takes (Takes l a wanted) wanted (l.order + 1 - wanted)
    (λ order. steal_front l a mobility order wanted) (greatest_order a from wanted (l.order + 1 - wanted))
    (greatest_order-among a from wanted (l.order + 1 - wanted))
    (λ order among. cond-takes (Takes l a wanted) (order == l.order) _ _
    (with_mobility-takes l a mobility wanted (take_front a from to order wanted)
    (take_first-takes l a from to order wanted (free_list a from order) refl
    (omega (arith, among.low, among.high)) among.low h))
    (take_first-takes l a from from order wanted (free_list a from order) refl
    (omega (arith, among.low, among.high)) among.low h))
