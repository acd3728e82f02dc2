-- Taking and giving free blocks keeps the areas in order.
use Rattle.std.proofs.Common.{◌≡◌, ◌≢◌, ℕ, zero, suc, ◌+◌, ◌%◌, ◌^◌, ◌<◌, ◌≤◌, List, [], true, false, Option, refl, ◌∙◌, subst, arith, inl, inr}
use Rattle.std.proofs.lemmas.Bool.{cases_lt, false_from_ne_true, both_ways}
use Rattle.std.proofs.lemmas.List.{get_or_past}
use Rattle.hp_units.specs.declared.rows.Class.{Class}
use Rattle.hp_units.specs.LayoutParts.{LayoutParts}
use Rattle.hp_units.specs.Arithmetic.{buddy, pageblock_of}
use Rattle.hp_units.specs.Memory.{FreeAreas, free_list, with_free_list}
use Rattle.hp_units.specs.FreeAreas.{is_on, with_front, with_halves}
use Rattle.hp_units.specs.Placement.{free_places, IsBlockOf, covered}
use Rattle.hp_units.proofs.Sizes.{with_free_list-size}
use Rattle.hp_units.proofs.Places.{covered-halves, HasOrder, with_free_list-places, with_halves-places}
use Rattle.hp_units.proofs.Geometry.{buddy-buddy, buddy-other, upper_half, below_aligned}
use Rattle.hp_units.proofs.ListEdits.{covered-self, off-free, free_list-cases, list_places-le, on-places}
use Rattle.hp_units.proofs.ListParts.{IsMore, IsPart, front-more}
use Rattle.hp_laws.proofs.Ordered.{AreOrdered}

pub has_order : (l : LayoutParts) (class_at : ℕ → Option Class) (a : FreeAreas) (order : ℕ)
    → AreOrdered l class_at a → order ≤ l.order → HasOrder a order
has_order l class_at a order h low = omega (arith, h.lists)

-- ---- a shorter list

part-off : (order : ℕ) (frames old : List ℕ) → IsPart order frames old → (frame : ℕ) → is_on frame old ≡ false
    → is_on frame frames ≡ false
part-off order frames old h frame off =
    false_from_ne_true (is_on frame frames) (λ on. both_ways (is_on frame old) off (h.on frame on))

pub part-ordered : (l : LayoutParts) (class_at : ℕ → Option Class) (a : FreeAreas) (class : Class) (order : ℕ)
    (frames : List ℕ)
    → order ≤ l.order
    → IsPart order frames (free_list a class order) → AreOrdered l class_at a
    → AreOrdered l class_at (with_free_list a class order frames)
part-ordered l class_at a class order frames low part h =
    let has : HasOrder a order = has_order l _ a order h low in
    record {
      lists = (with_free_list-size a class order frames).lists ∙ h.lists;
      few =
          λ frame.
          omega (arith, with_free_list-places a class order frame frames has, part.places frame, h.few frame);
      blocks =
          free_list-cases (λ (c : Class) (o : ℕ) (xs : List ℕ). (first : ℕ) → is_on first xs ≡ true
          → IsBlockOf l class_at c o first) a class order frames has
          (λ first on. h.blocks class order first (part.on first on)) (h.blocks);
      joined =
          free_list-cases (λ (c : Class) (o : ℕ) (xs : List ℕ). (first : ℕ) → o < l.order
          → is_on first xs ≡ true → is_on (buddy first o) xs ≡ false) a class order frames has
          (λ first below on. part-off order frames _ part _ (h.joined class order first below
          (part.on first on))) (λ c o. (λ first below on. h.joined
          c o first below on));
    }

-- ---- one block more

pub more-off : (order first : ℕ) (frames old : List ℕ) → IsMore order first frames old → (frame : ℕ)
    → first ≢ frame → is_on frame old ≡ false → is_on frame frames ≡ false
more-off order first frames old more frame ne off =
    false_from_ne_true (is_on frame frames) (λ on.
    elim (more.on frame on) [ inl same ↦ ne same | inr there ↦ both_ways (is_on frame old) off there ])

more-joined : (order first frame : ℕ) (frames old : List ℕ) → IsMore order first frames old
    → first % 2 ^ order ≡ 0 → is_on (buddy first order) old ≡ false
    → (is_on frame old ≡ true → frame % 2 ^ order ≡ 0)
    → (is_on frame old ≡ true → is_on (buddy frame order) old ≡ false)
    → is_on frame frames ≡ true → is_on (buddy frame order) frames ≡ false
more-joined order first frame frames old more aligned off even rest on = elim (more.on frame on) [
  | inl same ↦ rw (← same) (more-off order first frames old more _ (buddy-other first order aligned) off)
  | inr there ↦ more-off order first frames old more _ (λ same.
      let back : buddy first order ≡ frame = rw same (buddy-buddy frame order (even there)) in
      both_ways (is_on frame old) (rw (← back) off) there) (rest there)
]

pub more-ordered : (l : LayoutParts) (class_at : ℕ → Option Class) (a : FreeAreas) (class : Class)
    (order first : ℕ) (frames : List ℕ)
    → order ≤ l.order
    → IsMore order first frames (free_list a class order) → IsBlockOf l class_at class order first
    → ((frame : ℕ) → free_places a frame + covered frame order first ≤ 1)
    → (order < l.order → is_on (buddy first order) (free_list a class order) ≡ false)
    → AreOrdered l class_at a → AreOrdered l class_at (with_free_list a class order frames)
more-ordered l class_at a class order first frames low more block room apart h =
    let has : HasOrder a order = has_order l _ a order h low in
    record {
      lists = (with_free_list-size a class order frames).lists ∙ h.lists;
      few =
          λ frame.
          omega (arith, with_free_list-places a class order frame frames has, more.places frame, room frame);
      blocks =
          free_list-cases (λ (c : Class) (o : ℕ) (xs : List ℕ). (frame : ℕ) → is_on frame xs ≡ true
          → IsBlockOf l class_at c o frame) a class order frames has
          (λ frame on. elim (more.on frame on) [
            | inl same ↦ rw (← same) block
            | inr old ↦ h.blocks class order frame old
          ]) (h.blocks);
      joined =
          free_list-cases (λ (c : Class) (o : ℕ) (xs : List ℕ). (frame : ℕ) → o < l.order
          → is_on frame xs ≡ true → is_on (buddy frame o) xs ≡ false) a class order frames has
          (λ frame below on. more-joined order first frame frames _ more block.aligned (apart below)
          (λ old. (h.blocks class order frame old).aligned) (h.joined class order frame below) on)
          h.joined;
    }

pub front-ordered : (l : LayoutParts) (class_at : ℕ → Option Class) (a : FreeAreas) (class : Class)
    (order first : ℕ)
    → order ≤ l.order
    → IsBlockOf l class_at class order first
    → ((frame : ℕ) → free_places a frame + covered frame order first ≤ 1)
    → (order < l.order → is_on (buddy first order) (free_list a class order) ≡ false)
    → AreOrdered l class_at a → AreOrdered l class_at (with_front a class order first)
front-ordered l class_at a class order first low block room apart h =
    more-ordered l _ a class order first _ low (front-more order first _) block room apart h

-- ---- other classes at pageblocks with no free block

pub record IsFreeAt (l : LayoutParts) (a : FreeAreas) (order first : ℕ) : Type 0 where
  pub low : order ≤ l.order
  pub places : 1 ≤ free_places a first

pub on_free : (l : LayoutParts) (class_at : ℕ → Option Class) (a : FreeAreas) (class : Class)
    (order first : ℕ)
    → AreOrdered l class_at a
    → is_on first (free_list a class order) ≡ true → IsFreeAt l a order first
on_free l class_at a class order first h on = elim (cases_lt l.order order) [
  | inl above ↦
      let past : free_list a class order ≡ [] = get_or_past a.lists _ [] (omega (arith, h.lists)) in
      absurd (both_ways (is_on first []) refl (subst (λ (xs : List ℕ). is_on first xs ≡ true) past on))
  | inr low ↦
      record {
        low = low;
        places =
            omega (
              arith,
              on-places first order _ on,
              list_places-le a class order first (has_order l _ a order h low),
            );
      }
]

pub other-ordered : (l : LayoutParts) (class_at other_at : ℕ → Option Class) (a : FreeAreas)
    → ((first : ℕ) → 1 ≤ free_places a first
    → other_at (pageblock_of l first) ≡ class_at (pageblock_of l first))
    → AreOrdered l class_at a → AreOrdered l other_at a
other-ordered l class_at other_at a same h = record {
  lists = h.lists;
  few = h.few;
  blocks = λ class order first on.
      let block = h.blocks class order first on in
      record {
        aligned = block.aligned;
        class_agrees = same first (on_free l _ a class order first h on).places ∙ block.class_agrees;
      };
  joined = h.joined;
}

-- ---- the halves of a block that is in no list

pub halves-ordered : (l : LayoutParts) (class_at : ℕ → Option Class) (a : FreeAreas) (class : Class)
    (first last count : ℕ)
    → last + count ≤ l.order
    → IsBlockOf l class_at class (last + count) first
    → ((frame : ℕ) → free_places a frame + covered frame (last + count) first ≤ 1)
    → AreOrdered l class_at a → AreOrdered l class_at (with_halves a class first last count)
halves-ordered l class_at a class first last zero low block room h = h
halves-ordered l class_at a class first last (suc count) low block room h =
    let sum : last + suc count ≡ suc last + count = omega arith in
    let block' : IsBlockOf l class_at class (suc last + count) first = rw (← sum) block in
    let room' : (frame : ℕ) → free_places a frame + covered frame (suc last + count) first ≤ 1 =
    rw (← sum) room in
    let rest : FreeAreas = with_halves a class first (suc last) count in
    let ordered : AreOrdered l class_at rest =
    halves-ordered l _ a class first _ count (omega arith) block' room' h in
    let half = upper_half first last l.order (below_aligned _ count first block'.aligned) (omega arith) in
    let left : (frame : ℕ)
    → free_places rest frame + (covered frame last first + covered frame last (first + 2 ^ last)) ≤ 1 =
    λ frame. omega (
      arith,
      with_halves-places a class first (suc last) count frame (omega (arith, h.lists)),
      covered-halves frame last first,
      room' frame,
    ) in
    front-ordered l _ rest class last _ (omega arith)
    (record { aligned = half.aligned; class_agrees = rw (half.above, block.class_agrees) })
    (λ frame. omega (arith, left frame))
    (λ below. rw half.buddy_is (off-free rest class last first (has_order l _ rest last ordered
    (omega arith)) (omega (arith, left first, covered-self last first))))
    ordered
