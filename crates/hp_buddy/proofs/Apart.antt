-- Free blocks lie apart: a shorter list keeps them apart, and so does one more block.
use Rattle.std.proofs.Common.{◌≡◌, ℕ, ◌+◌, ◌%◌, ◌^◌, ◌<◌, ◌≤◌, List, [], ◌∷◌, ◌++◌, true, ◌∙◌, subst, arith, inl, inr}
use Rattle.std.proofs.lemmas.Bool.{cases_lt}
use Rattle.std.proofs.lemmas.Nat.{pow_pos}
use Rattle.hp_units.specs.declared.rows.Class.{Class}
use Rattle.hp_units.specs.declared.rows.Kind.{Kind}
use Rattle.hp_units.specs.LayoutParts.{LayoutParts}
use Rattle.hp_units.specs.Arithmetic.{frame_count}
use Rattle.hp_units.specs.InLayout.{AreFreeAreasOf}
use Rattle.hp_units.specs.Memory.{FreeAreas, free_list, with_free_list, with_kind}
use Rattle.hp_units.specs.FreeAreas.{is_on, with_front, with_back}
use Rattle.hp_units.specs.Placement.{free_places, covered}
use Rattle.hp_units.proofs.Sizes.{with_free_list-size, with_kind-size}
use Rattle.hp_units.proofs.Places.{HasOrder, with_free_list-places, covered-in, covered-out}
use Rattle.hp_units.proofs.ListEdits.{free_list-cases}
use Rattle.hp_units.proofs.ListParts.{IsMore, IsPart, back-more, front-more}
use Rattle.hp_buddy.specs.Buddy.{AreApart, MayBeGiven}

-- the lists go up to each order of the layout
pub has_order : (l : LayoutParts) (a : FreeAreas) (order : ℕ) → AreApart l a → order ≤ l.order
    → HasOrder a order
has_order l a order h low = omega (arith, h.areas.lists)

-- a free block's first frame is a frame of the layout
pub on_frame : (l : LayoutParts) (a : FreeAreas) (class : Class) (order first : ℕ) → AreFreeAreasOf l a
    → is_on first (free_list a class order) ≡ true → first < frame_count l
on_frame l a class order first h on =
    let some : 0 < 2 ^ order = pow_pos order in
    omega (arith, h.free class order first on)

-- ---- a frame of a block, and the blocks that it has

-- ---- a shorter list

-- a list is replaced by a part of it
pub part-apart : (l : LayoutParts) (a : FreeAreas) (class : Class) (order : ℕ) (frames : List ℕ)
    → order ≤ l.order
    → IsPart order frames (free_list a class order) → AreApart l a
    → AreApart l (with_free_list a class order frames)
part-apart l a class order frames low part h =
    let has : HasOrder a order = has_order l a order h low in
    record {
      areas = record {
        lists = (with_free_list-size a class order frames).lists ∙ h.areas.lists;
        kinds = h.areas.kinds;
        free =
            free_list-cases (λ (c : Class) (o : ℕ) (xs : List ℕ). (first : ℕ) → is_on first xs ≡ true
            → first + 2 ^ o ≤ frame_count l) a class order frames has
            (λ first on. h.areas.free class order first (part.on first on)) (λ c o. h.areas.free c o);
      };
      aligned =
          free_list-cases (λ (c : Class) (o : ℕ) (xs : List ℕ). (first : ℕ) → is_on first xs ≡ true
          → first % 2 ^ o ≡ 0) a class order frames has
          (λ first on. h.aligned class order first (part.on first on)) (λ c o. h.aligned c o);
      once =
          λ frame. omega
          (arith, with_free_list-places a class order frame frames has, part.places frame, h.once frame);
    }

-- ---- one block more

-- a block that none of the free blocks overlaps
pub more-apart : (l : LayoutParts) (a : FreeAreas) (class : Class) (order first : ℕ) (frames : List ℕ)
    → IsMore order first frames (free_list a class order)
    → MayBeGiven l a order first → AreApart l a → AreApart l (with_free_list a class order frames)
more-apart l a class order first frames more block h =
    let has : HasOrder a order = has_order l a order h block.in_order in
    record {
      areas = record {
        lists = (with_free_list-size a class order frames).lists ∙ h.areas.lists;
        kinds = h.areas.kinds;
        free =
            free_list-cases (λ (c : Class) (o : ℕ) (xs : List ℕ). (frame : ℕ) → is_on frame xs ≡ true
            → frame + 2 ^ o ≤ frame_count l) a class order frames has
            (λ frame on. elim (more.on frame on) [
              | inl same ↦ subst (λ (f : ℕ). f + 2 ^ order ≤ frame_count l) same block.within
              | inr old ↦ h.areas.free class order frame old
            ]) (λ c o. h.areas.free c o);
      };
      aligned =
          free_list-cases (λ (c : Class) (o : ℕ) (xs : List ℕ). (frame : ℕ) → is_on frame xs ≡ true
          → frame % 2 ^ o ≡ 0) a class order frames has
          (λ frame on. elim (more.on frame on) [
            | inl same ↦ subst (λ (f : ℕ). f % 2 ^ order ≡ 0) same block.aligned
            | inr old ↦ h.aligned class order frame old
          ]) (λ c o. h.aligned c o);
      once =
          λ frame. omega (
            arith,
            with_free_list-places a class order frame frames has,
            more.places frame,
            room l a order first frame block h,
          );
    }
  where
    room : (l : LayoutParts) (a : FreeAreas) (order first frame : ℕ) → MayBeGiven l a order first
        → AreApart l a → free_places a frame + covered frame order first ≤ 1
    room l a order first frame block h = elim (cases_lt frame first) [
      | inl below ↦ omega (arith, h.once frame, covered-out frame order first (inl below))
      | inr low ↦ elim (cases_lt frame (first + 2 ^ order)) [
        | inl high ↦ omega (arith, block.unfree frame low high, covered-in frame order first low high)
        | inr above ↦ omega (arith, h.once frame, covered-out frame order first (inr above))
      ]
    ]

-- a block at the front of its list
pub front-apart : (l : LayoutParts) (a : FreeAreas) (class : Class) (order first : ℕ)
    → MayBeGiven l a order first → AreApart l a → AreApart l (with_front a class order first)
front-apart l a class order first block h =
    more-apart l a class order first (first ∷ free_list a class order)
    (front-more order first (free_list a class order)) block h

-- a block at the back of its list
pub back-apart : (l : LayoutParts) (a : FreeAreas) (class : Class) (order first : ℕ)
    → MayBeGiven l a order first → AreApart l a → AreApart l (with_back a class order first)
back-apart l a class order first block h =
    more-apart l a class order first (free_list a class order ++ first ∷ [])
    (back-more order first (free_list a class order)) block h

-- ---- a kind

-- a kind is written
pub kind-apart : (l : LayoutParts) (a : FreeAreas) (pageblock : ℕ) (kind : Kind) → AreApart l a
    → AreApart l (with_kind a pageblock kind)
kind-apart l a pageblock kind h = record {
  areas =
      record {
        lists = h.areas.lists;
        kinds = (with_kind-size a pageblock kind).kinds ∙ h.areas.kinds;
        free = h.areas.free;
      };
  aligned = h.aligned;
  once = h.once;
}
