-- The free blocks of a pageblock change their class.
use Rattle.std.proofs.Common.{◌≡◌, ◌≢◌, ℕ, zero, suc, ◌+◌, ◌*◌, ◌/◌, ◌^◌, ◌<◌, ◌≤◌, List, [], ◌∷◌, ◌++◌, length, Bool, true, not, refl, sym, ◌∙◌, subst, arith, ◌⊎◌, inl, inr, ◌==◌, eqb-true, ne_eqb, eq-eqb}
use Rattle.std.specs.Prelude.{filter}
use Rattle.std.specs.List.{range_with_len}
use Rattle.std.proofs.lemmas.Bool.{cases_eq, cases_lt, false_from_ne_true, or_cases, cases_Bool, or_right, or_left}
use Rattle.std.proofs.lemmas.Bool.Decides.{nat_tests}
use Rattle.std.proofs.lemmas.List.Elements.{filter_agree}
use Rattle.std.proofs.lemmas.List.Folds.{list_any-append}
use Rattle.std.proofs.lemmas.List.Sums.{sum_by-append}
use Rattle.std.proofs.lemmas.Nat.{pow_pos, div-add-mod'}
use Rattle.std.proofs.Math.Nat.{lt-div-mul-add}
use Rattle.hp_units.specs.declared.rows.Class.{Class}
use Rattle.hp_units.specs.LayoutParts.{LayoutParts}
use Rattle.hp_units.specs.Arithmetic.{frames_of_pageblock, pageblock_of}
use Rattle.hp_units.specs.Memory.{FreeAreas, free_list, with_free_list, class_index}
use Rattle.hp_units.specs.FreeAreas.{is_on}
use Rattle.hp_units.specs.Isolation.{move_free, move_free_below}
use Rattle.hp_units.specs.Placement.{free_places, list_places, covered}
use Rattle.hp_units.proofs.Sizes.{with_free_list-size}
use Rattle.hp_units.proofs.Places.{HasOrder, with_free_list-places}
use Rattle.hp_units.proofs.ListEdits.{free_list-apart, free_list-cases, free_list-same, list_places-le, that_list}
use Rattle.hp_laws.specs.Commits.{IsInRange}
use Rattle.hp_laws.proofs.Onlines.{quotient}
use Rattle.hp_laws.proofs.Moves.{AreApart, apart_by_places, is_among, moved-sum}

-- ---- frames of a list that pass a test, and frames of a range

pub record IsBoth (a b : Bool) : Type 0 where
  pub left : a ≡ true
  pub right : b ≡ true

pub on_filter : (p : ℕ → Bool) (frame : ℕ) (xs : List ℕ) → is_on frame (filter p xs) ≡ true
    → IsBoth (p frame) (is_on frame xs)
on_filter p frame [] on = cc
on_filter p frame (x ∷ xs) on = elim (cases_Bool (p x)) [
  | inl e ↦ elim (or_cases (x == frame) (is_on frame (filter p xs)) (rw e at on)) [
    | inl same ↦ record { left = rw (← eqb-true x frame same) e; right = or_left (x == frame) _ same }
    | inr there ↦
        let rest = on_filter p frame xs there in
        record { left = rest.left; right = or_right _ _ rest.right }
  ]
  | inr e ↦
      let rest = on_filter p frame xs (rw e at on) in
      record { left = rest.left; right = or_right _ _ rest.right }
]

pub on_range : (frame from count : ℕ) → is_on frame (range_with_len from count) ≡ true
    → IsInRange from count frame
on_range frame from zero on = cc
on_range frame from (suc count) on =
    elim (or_cases (from == frame) (is_on frame (range_with_len (from + 1) count)) on) [
      | inl same ↦
          (let is : from ≡ frame = eqb-true from frame same in
          record { low = omega arith; high = omega arith })
      | inr there ↦
          (let rest = on_range frame (from + 1) count there in
          record { low = omega (arith, rest.low); high = omega (arith, rest.high) })
    ]

-- a frame is in a pageblock where it is among its frames
among_block : (size block x : ℕ) → 0 < size → is_among (block * size) size x ≡ (x / size == block)
among_block size block x some = elim (cases_eq (x / size) block) [
  | inl same ↦
      let high : x < x / size * size + size = lt-div-mul-add some in
      let low : x / size * size ≤ x = omega (arith, div-add-mod' x size) in
      let yes : is_among (x / size * size) size x ≡ true = among_yes _ size x low high in
      subst (λ (b : ℕ). is_among (b * size) size x ≡ true) same yes ∙ sym (eq-eqb (x / size) block same)
  | inr ne ↦ false_from_ne_true (is_among (block * size) size x) (λ yes.
      let in_range = among_parts _ size x yes in
      ne (quotient x size block in_range.low in_range.high)) ∙ sym (ne_eqb (x / size) block ne)
]
  where
    among_yes : (from count x : ℕ) → from ≤ x → x < from + count → is_among from count x ≡ true
    among_yes from count x h k = grind (arith, nat_tests)

    among_parts : (from count x : ℕ) → is_among from count x ≡ true → IsInRange from count x
    among_parts from count x e = record { low = grind (arith, nat_tests); high = grind (arith, nat_tests) }

-- ---- one list written, where the old one is known to be another

other_cases : (P : Class → ℕ → List ℕ → Type 0) (a : FreeAreas) (class : Class) (order : ℕ) (frames : List ℕ)
    → HasOrder a order
    → P class order frames
    → ((c : Class) (o : ℕ) → 5 * o + class_index c ≢ 5 * order + class_index class → P c o (free_list a c o))
    → (c : Class) (o : ℕ) → P c o (free_list (with_free_list a class order frames) c o)
other_cases P a class order frames h new old c o =
    elim (cases_eq (5 * o + class_index c) (5 * order + class_index class)) [
      | inl same ↦
          let that = that_list class order c o same in
          rw (that.class_is, that.order_is, free_list-same a class order frames h) new
      | inr apart ↦ rw (free_list-apart a class order frames c o apart) (old c o apart)
    ]

-- ---- where a block of the lists was before so many orders were moved

pub record IsMovedBlock (l : LayoutParts) (a : FreeAreas) (from to : Class) (pageblock moved : ℕ)
    (class : Class) (order first : ℕ) : Type 0 where
  pub below : order < moved
  pub class_is : class ≡ to
  pub here : pageblock_of l first ≡ pageblock
  pub was : is_on first (free_list a from order) ≡ true

pub record IsKeptBlock (l : LayoutParts) (a : FreeAreas) (from : Class) (pageblock moved : ℕ) (class : Class)
    (order first : ℕ) : Type 0 where
  pub was : is_on first (free_list a class order) ≡ true
  pub away : order < moved → class ≡ from → pageblock_of l first ≢ pageblock

abbrev pub WasBlock : LayoutParts → FreeAreas → (from to : Class) → (pageblock moved : ℕ) → Class
    → (order first : ℕ) → Type 0
WasBlock l a from to pageblock moved class order first =
    IsMovedBlock l a from to pageblock moved class order first
    ⊎ IsKeptBlock l a from pageblock moved class order first

pub record MovesBelow (l : LayoutParts) (a : FreeAreas) (from to : Class) (pageblock moved : ℕ)
    (b : FreeAreas) : Type 0 where
  pub lists : length b.lists ≡ length a.lists
  pub kinds : b.kinds ≡ a.kinds
  pub places : (frame : ℕ) → free_places b frame ≡ free_places a frame
  pub blocks : (class : Class) (order first : ℕ) → is_on first (free_list b class order) ≡ true
      → WasBlock l a from to pageblock moved class order first

-- one order more
move_free-below : (l : LayoutParts) (a b : FreeAreas) (from to : Class) (pageblock order : ℕ)
    → HasOrder a order → ((frame : ℕ) → free_places a frame ≤ 1)
    → MovesBelow l a from to pageblock order b
    → MovesBelow l a from to pageblock (suc order) (move_free l b from to pageblock order)
move_free-below l a b from to pageblock order has few h =
    let size : ℕ = 2 ^ l.order in
    let frames : List ℕ = free_list b from order in
    let kept : List ℕ = filter (λ frame. not (pageblock_of l frame == pageblock)) frames in
    let gone : List ℕ = filter (λ frame. is_on frame frames) (frames_of_pageblock l pageblock) in
    let left : FreeAreas = with_free_list b from order kept in
    let has_b : HasOrder b order = omega (arith, h.lists) in
    let has_left : HasOrder left order =
    omega (arith, h.lists, (with_free_list-size b from order kept).lists) in
    let apart : AreApart frames =
    apart_by_places order frames
    (λ frame. omega (arith, list_places-le b from order frame has_b, h.places frame, few frame)) in
    let same : kept ≡ filter (λ x. not (is_among (pageblock * size) size x)) frames =
    filter_agree (λ frame. not (pageblock_of l frame == pageblock))
    (λ x. not (is_among (pageblock * size) size x))
    (λ x. rw (← among_block size _ x (pow_pos l.order))) frames in
    let sums : (frame : ℕ)
    → list_places frame order gone + list_places frame order kept ≡ list_places frame order frames =
    λ frame. rw same (moved-sum _ _ size frames apart) in
    let put : List ℕ = free_list left to order ++ gone in
    let still : (c : Class) (o : ℕ) → 5 * o + class_index c ≢ 5 * order + class_index from → (first : ℕ)
    → is_on first (free_list b c o) ≡ true → WasBlock l a from to pageblock (suc order) c o first =
    λ c o ne first on. later c o first ne (h.blocks c o first on) in
    let in_left : (c : Class) (o : ℕ) → (first : ℕ) → is_on first (free_list left c o) ≡ true
    → WasBlock l a from to pageblock (suc order) c o first =
    other_cases (λ (c : Class) (o : ℕ) (xs : List ℕ). (first : ℕ) → is_on first xs ≡ true
    → WasBlock l a from to pageblock (suc order) c o first) b from order kept has_b
    (λ first on. kept_here first (on_filter (λ frame. not (pageblock_of l frame == pageblock)) first frames
    on) (h.blocks from order first)) still in
    record {
      lists =
          (with_free_list-size left to order put).lists ∙ (with_free_list-size b from order kept).lists
          ∙ h.lists;
      kinds = h.kinds;
      places = λ frame. omega (
        arith,
        with_free_list-places left to order frame put has_left,
        with_free_list-places b from order frame kept has_b,
        sum_by-append (covered frame order) (free_list left to order) gone,
        sums frame,
        h.places frame,
      );
      blocks =
          free_list-cases (λ (c : Class) (o : ℕ) (xs : List ℕ). (first : ℕ) → is_on first xs ≡ true
          → WasBlock l a from to pageblock (suc order) c o first) left to order put has_left
          (λ first on. elim (on_append first _ gone on) [
            | inl there ↦ in_left to order first there
            | inr new ↦ (let both = on_filter (λ frame. is_on frame frames) first _ new in
                let in_range = on_range first _ size both.right in
                inl (record {
                  below = omega arith;
                  class_is = refl;
                  here = quotient first size _
                      in_range.low in_range.high;
                  was = old_here first (h.blocks from order first both.left);
                }))
          ]) in_left;
    }
  where
    on_append : (first : ℕ) (xs ys : List ℕ) → is_on first (xs ++ ys) ≡ true
        → (is_on first xs ≡ true) ⊎ (is_on first ys ≡ true)
    on_append first xs ys on =
        or_cases (is_on first xs) (is_on first ys)
        (sym (list_any-append (λ other. other == first) xs ys) ∙ on)

    old_here : (first : ℕ) → WasBlock l a from to pageblock order from order first
        → is_on first (free_list a from order) ≡ true
    old_here first (inl m) = m.was
    old_here first (inr k) = k.was

    kept_here : (first : ℕ)
        → IsBoth (not (pageblock_of l first == pageblock)) (is_on first (free_list b from order))
        → (is_on first (free_list b from order) ≡ true
        → WasBlock l a from to pageblock order from order first)
        → WasBlock l a from to pageblock (suc order) from order first
    kept_here first both was =
        inr (record {
          was = old_here first (was both.right);
          away = λ below same here. cc (rw (eq-eqb (pageblock_of l first) pageblock here) at both.left);
        })

    later : (c : Class) (o first : ℕ) → 5 * o + class_index c ≢ 5 * order + class_index from
        → WasBlock l a from to pageblock order c o first
        → WasBlock l a from to pageblock (suc order) c o first
    later c o first ne (inl m) =
        inl (record { below = omega (arith, m.below); class_is = m.class_is; here = m.here; was = m.was })
    later c o first ne (inr k) = inr (record {
      was = k.was;
      away = λ below same. elim (cases_lt o order) [
        | inl low ↦ k.away low same
        | inr high ↦
            let is : class_index c ≡ class_index from = rw same in
            absurd (ne (omega arith))
      ];
    })

pub moves_below : (l : LayoutParts) (a : FreeAreas) (from to : Class) (pageblock moved : ℕ)
    → 5 * moved ≤ length a.lists → ((frame : ℕ) → free_places a frame ≤ 1)
    → MovesBelow l a from to pageblock moved (move_free_below l a from to pageblock moved)
moves_below l a from to pageblock zero has few =
    record {
      lists = refl;
      kinds = refl;
      places = λ frame. refl;
      blocks = λ class order first on. inr (record { was = on; away = λ below. absurd (omega arith) });
    }
moves_below l a from to pageblock (suc order) has few =
    move_free-below l a _ from to _ order (omega arith)
    few (moves_below l a from to _ order (omega arith) few)
