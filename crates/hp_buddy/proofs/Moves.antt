-- Blocks that change their class one at a time are those that change it at once.
use Rattle.std.proofs.Common.{◌≡◌, ◌≢◌, ℕ, zero, suc, ◌+◌, ◌*◌, ◌<◌, ◌≤◌, List, [], ◌∷◌, ◌++◌, ◌==◌, ◌||◌, ◌&&◌, length, get_or, set, Bool, true, false, not, cond, refl, sym, ◌∙◌, ap, arith, inl, inr, add-zero, append_assoc}
use Rattle.std.specs.Prelude.{filter, nat_le, nat_lt}
use Rattle.std.specs.List.{range_with_len}
use Rattle.std.proofs.lemmas.Bool.{cases_eq, both_ways, cond-true, or_from, ne_eqb}
use Rattle.std.proofs.lemmas.Bool.Decides.{nat_tests}
use Rattle.std.proofs.lemmas.List.{get_or-set_same, get_or-set_other, set-set, set_comm, set-get_or, append-nil, length-set}
use Rattle.std.proofs.lemmas.List.Folds.{list_any-append}
use Rattle.std.proofs.lemmas.List.Elements.{filter-append}
use Rattle.hp_units.specs.declared.rows.Class.{Class}
use Rattle.hp_units.specs.LayoutParts.{LayoutParts}
use Rattle.hp_units.specs.Memory.{FreeAreas, free_list, class_index}
use Rattle.hp_units.specs.FreeAreas.{is_on, without, with_back, without_free}
use Rattle.hp_units.specs.Placement.{free_places}
use Rattle.hp_buddy.specs.Buddy.{AreApart, MayBeGiven}
use Rattle.hp_buddy.specs.Moves.{move_one}
use Rattle.hp_units.proofs.Places.{HasOrder, class_index-lt, covered-in}
use Rattle.hp_units.proofs.Joins.{is_on-none, without_free-places}
use Rattle.hp_buddy.proofs.Gives.{without_free-apart}
use Rattle.hp_buddy.proofs.Apart.{has_order, back-apart}
use Rattle.hp_units.proofs.ListParts.{with_back-places}

-- ---- one block keeps the free blocks apart

-- the free blocks lie apart, and each frame is in as many as before
pub record Moves (l : LayoutParts) (a after : FreeAreas) : Type 0 where
  pub apart : AreApart l after
  pub places : (frame : ℕ) → free_places after frame ≡ free_places a frame

-- a free block that left its list
pub record IsOut (l : LayoutParts) (mid : FreeAreas) (order first : ℕ) : Type 0 where
  pub apart : AreApart l mid
  pub block : MayBeGiven l mid order first

-- a free block leaves its list
pub taken_out : (l : LayoutParts) (a : FreeAreas) (class : Class) (order f : ℕ) → order ≤ l.order
    → is_on f (free_list a class order) ≡ true → AreApart l a
    → IsOut l (without_free a class order f) order f
taken_out l a class order f low on h = record {
  apart = without_free-apart l a class order f low h;
  block = record {
    in_order = low;
    aligned = h.aligned class order f on;
    within = h.areas.free class order f on;
    unfree = λ frame below above.
        omega (
          arith,
          without_free-places a class order f frame (has_order l a order h low) (h.once f) on,
          h.once frame,
          covered-in frame order f below above,
        );
  };
}

-- the same, by whether the block is free
one-moves : (l : LayoutParts) (a : FreeAreas) (from to : Class) (order f : ℕ) (on : Bool)
    → is_on f (free_list a from order) ≡ on → order ≤ l.order → AreApart l a
    → Moves l a (cond on (with_back (without_free a from order f) to order f) a)
one-moves l a from to order f true is low h =
    let out : IsOut l (without_free a from order f) order f = taken_out l a from order f low is h in
    record {
      apart = back-apart l (without_free a from order f) to order f out.block out.apart;
      places = λ frame. omega (
        arith,
        with_back-places (without_free a from order f) to order f frame
            (has_order l (without_free a from order f) order out.apart low),
        without_free-places a from order f frame (has_order l a order h low) (h.once f) is,
      );
    }
one-moves l a from to order f false is low h = record { apart = h; places = λ frame. refl }

-- one block moves
pub move_one-moves : (l : LayoutParts) (a : FreeAreas) (from to : Class) (order f : ℕ) → order ≤ l.order
    → AreApart l a → Moves l a (move_one a from to order f)
move_one-moves l a from to order f low h =
    one-moves l a from to order f (is_on f (free_list a from order)) refl low h

-- two moves, one after the other
pub moves-then : (l : LayoutParts) (a b c : FreeAreas) → Moves l a b → Moves l b c → Moves l a c
moves-then l a b c h k = record { apart = k.apart; places = λ frame. k.places frame ∙ h.places frame }

-- the blocks that start at the `count` frames from `first` on move, one after another
abbrev pub move_first : FreeAreas → (from to : Class) → (order first count : ℕ) → FreeAreas
move_first a from to order first zero = a
move_first a from to order first (suc count) =
    move_one (move_first a from to order first count) from to order (first + count)

-- moving them keeps the free blocks apart
pub move_first-moves : (l : LayoutParts) (a : FreeAreas) (from to : Class) (order first count : ℕ)
    → order ≤ l.order → AreApart l a → Moves l a (move_first a from to order first count)
move_first-moves l a from to order first zero low h = record { apart = h; places = λ frame. refl }
move_first-moves l a from to order first (suc count) low h =
    let before = move_first-moves l a from to order first count low h in
    moves-then l a (move_first a from to order first count) (move_first a from to order first (suc count))
    before
    (move_one-moves l (move_first a from to order first count) from to order (first + count) low before.apart)

-- ---- the frames of a list that are in a range, and those that are not

-- whether a number is in a range
abbrev pub is_among : (first count f : ℕ) → Bool
is_among first count f = nat_le first f && nat_lt f (first + count)

-- those that stay, and those that go
abbrev pub staying : List ℕ → (first count : ℕ) → List ℕ
staying frames first count = filter (λ f. not (is_among first count f)) frames

-- those of the range that are on the list
abbrev pub going : List ℕ → (first count : ℕ) → List ℕ
going frames first count = filter (λ f. is_on f frames) (range_with_len first count)

-- two filters, one after the other, are one
filter-both : (p q r : ℕ → Bool) (xs : List ℕ) → ((x : ℕ) → (p x && q x) ≡ r x)
    → filter q (filter p xs) ≡ filter r xs
filter-both p q r [] e = refl
filter-both p q r (x ∷ xs) e = step (p x) (r x) (e x) (filter-both p q r xs e)
  where
    step : (a c : Bool) → (a && q x) ≡ c → filter q (filter p xs) ≡ filter r xs
        → filter q (cond a (x ∷ filter p xs) (filter p xs)) ≡ cond c (x ∷ filter r xs) (filter r xs)
    step true c f h =
        ap (λ (b : Bool). cond b (x ∷ filter q (filter p xs)) (filter q (filter p xs))) f
        ∙ ap (λ (ys : List ℕ). cond c (x ∷ ys) ys) h
    step false c f h = h ∙ ap (λ (b : Bool). cond b (x ∷ filter r xs) (filter r xs)) f

-- one more frame leaves
staying-more : (frames : List ℕ) (first count : ℕ)
    → without (first + count) (staying frames first count) ≡ staying frames first (suc count)
staying-more frames first count =
    filter-both (λ f. not (is_among first count f)) (λ f. not (f == first + count))
    (λ f. not (is_among first (suc count) f)) frames (λ f. one f first count)
  where
    one : (f first count : ℕ)
        → (not (is_among first count f) && not (f == first + count)) ≡ not (is_among first (suc count) f)
    one f first count = grind (arith, nat_tests)

-- a range with one more
range_more : (first count : ℕ)
    → range_with_len first (suc count) ≡ range_with_len first count ++ (first + count) ∷ []
range_more first zero = ap (λ (n : ℕ). n ∷ []) (sym (add-zero first))
range_more first (suc count) =
    let sum : first + 1 + count ≡ first + suc count = omega arith in
    rw (range_more (first + 1) count, sum)

-- one more frame goes
going-more : (frames : List ℕ) (first count : ℕ)
    → going frames first (suc count)
    ≡ going frames first count ++ cond (is_on (first + count) frames) ((first + count) ∷ []) []
going-more frames first count =
    ap (λ (ns : List ℕ). filter (λ f. is_on f frames) ns) (range_more first count)
    ∙ filter-append (λ f. is_on f frames) (range_with_len first count) ((first + count) ∷ [])

-- the next frame is not among those before it
not_in_range : (x first count : ℕ) → first + count ≤ x → is_on x (range_with_len first count) ≡ false
not_in_range x first zero above = refl
not_in_range x first (suc count) above =
    let other : first ≢ x = λ same. omega arith in
    or_from (first == x) (is_on x (range_with_len (first + 1) count)) (ne_eqb first x other)
    (not_in_range x (first + 1) count (omega arith))

-- a number on no list is on no part of it
off-filter : (x : ℕ) (p : ℕ → Bool) (xs : List ℕ) → is_on x xs ≡ false → is_on x (filter p xs) ≡ false
off-filter x p [] off = refl
off-filter x p (y ∷ ys) off = step (p y) (y == x) off (off-filter x p ys)
  where
    step : (keep same : Bool) → (same || is_on x ys) ≡ false
        → (is_on x ys ≡ false → is_on x (filter p ys) ≡ false)
        → is_on x (cond keep (y ∷ filter p ys) (filter p ys)) ≡ false
    step keep true f h = cc
    step true false f h = or_from (y == x) (is_on x (filter p ys)) (first_off (y == x) (is_on x ys) off) (h f)
      where
        first_off : (a b : Bool) → (a || b) ≡ false → a ≡ false
        first_off true b e = e
        first_off false b e = refl
    step false false f h = h f

-- the next frame did not go
going-off : (frames : List ℕ) (first count : ℕ) → is_on (first + count) (going frames first count) ≡ false
going-off frames first count =
    off-filter (first + count) (λ f. is_on f frames) (range_with_len first count)
    (not_in_range (first + count) first count (omega arith))

-- a number that passes stays on the list
on-filter : (x : ℕ) (p : ℕ → Bool) (xs : List ℕ) → p x ≡ true → is_on x (filter p xs) ≡ is_on x xs
on-filter x p [] kept = refl
on-filter x p (y ∷ ys) kept = step (p y) refl (on-filter x p ys kept)
  where
    step : (keep : Bool) → p y ≡ keep → is_on x (filter p ys) ≡ is_on x ys
        → is_on x (cond keep (y ∷ filter p ys) (filter p ys)) ≡ ((y == x) || is_on x ys)
    step true e h = ap (λ (b : Bool). (y == x) || b) h
    step false e h =
        let other : (y == x) ≡ false = ne_eqb y x (λ same. both_ways (p x) (ap p (sym same) ∙ e) kept) in
        h ∙ ap (λ (b : Bool). b || is_on x ys) (sym other)

-- the next frame stayed
staying-on : (frames : List ℕ) (first count : ℕ)
    → is_on (first + count) (staying frames first count) ≡ is_on (first + count) frames
staying-on frames first count =
    on-filter (first + count) (λ f. not (is_among first count f)) frames (past first count)
  where
    past : (first count : ℕ) → not (is_among first count (first + count)) ≡ true
    past first count = grind (arith, nat_tests)

-- ---- two lists written

-- a list written, and another lengthened
abbrev pub written : List (List ℕ) → (i j : ℕ) → (rest more : List ℕ) → List (List ℕ)
written lists i j rest more = set (set lists i rest) j (get_or (set lists i rest) j [] ++ more)

-- if both are one list
written-same : (lists : List (List ℕ)) (i j : ℕ) (rest more : List ℕ) → i < length lists → i ≡ j
    → written lists i j rest more ≡ set lists i (rest ++ more)
written-same lists i j rest more low same =
    rw (← same, get_or-set_same lists i rest [] low) (set-set lists i rest (rest ++ more))

-- if they are two lists
written-apart : (lists : List (List ℕ)) (i j : ℕ) (rest more : List ℕ) → i ≢ j
    → written lists i j rest more ≡ set (set lists i rest) j (get_or lists j [] ++ more)
written-apart lists i j rest more ne = rw (get_or-set_other lists i j rest [] (λ same. ne (sym same)))

-- the first list after both are written
written-on : (lists : List (List ℕ)) (i j x : ℕ) (rest more : List ℕ) → i < length lists → j < length lists
    → is_on x more ≡ false
    → is_on x (get_or (written lists i j rest more) i []) ≡ is_on x rest
written-on lists i j x rest more low high off = elim (cases_eq i j) [
  | inl same ↦
      rw (written-same lists i j rest more low same, get_or-set_same lists i (rest ++ more) [] low)
      (rw (list_any-append (λ f. f == x) rest more) (or_off (is_on x rest) (is_on x more) off))
  | inr ne ↦
      rw (get_or-set_other (set lists i rest) j i (get_or (set lists i rest) j [] ++ more) [] ne)
      (rw (get_or-set_same lists i rest [] low))
]
  where
    or_off : (a b : Bool) → b ≡ false → (a || b) ≡ a
    or_off true b e = refl
    or_off false b e = e

-- without a number that is not on the second part
without-append : (x : ℕ) (rest more : List ℕ) → is_on x more ≡ false
    → without x (rest ++ more) ≡ without x rest ++ more
without-append x rest more off = rw ((filter-append (λ f. not (f == x)) rest more), is_on-none x more off)

-- one frame more is moved
written-more : (lists : List (List ℕ)) (i j x : ℕ) (rest more : List ℕ) → i < length lists → j < length lists
    → is_on x more ≡ false
    → written (written lists i j rest more) i j (without x (get_or (written lists i j rest more) i []))
    (x ∷ []) ≡ written lists i j (without x rest) (more ++ x ∷ [])
written-more lists i j x rest more low high off = elim (cases_eq i j) [
  | inl same ↦
      rw (written-same lists i j rest more low same, get_or-set_same lists i (rest ++ more) [] low)
      (rw (written-same (set lists i (rest ++ more)) i j (without x (rest ++ more)) (x ∷ []) (omega
      (arith, length-set lists i (rest ++ more))) same) (rw (set-set lists i (rest ++ more) (without x (rest
      ++ more) ++ x ∷ [])) (rw (without-append x rest more off, append_assoc (without x rest) more (x ∷ []))
      (rw (← written-same lists i j (without x rest) (more ++ x ∷ []) low same)))))
  | inr ne ↦
      let old : List ℕ = get_or lists j [] ++ more in
      let here : get_or (set (set lists i rest) j old) i [] ≡ rest =
      get_or-set_other (set lists i rest) j i old [] ne ∙ get_or-set_same lists i rest [] low in
      let there : get_or (set (set lists i rest) j old) j [] ≡ old =
      get_or-set_same (set lists i rest) j old [] (omega (arith, length-set lists i rest)) in
      rw (written-apart lists i j rest more ne, here)
      (rw (written-apart (set (set lists i rest) j old) i j (without x rest) (x ∷ []) ne, there)
      (rw (set_comm (set lists i rest) j i old (without x rest) (λ same. ne (sym same)))
      (rw (set-set (set (set lists i rest) i (without x rest)) j old (old ++ x ∷ []))
      (rw (set-set lists i rest (without x rest), append_assoc (get_or lists j []) more (x ∷ []))
      (rw (← written-apart lists i j (without x rest) (more ++ x ∷ []) ne))))))
]

-- ---- `count` frames of a pageblock at once

-- the frames of a range that are on a list go to the back of another
abbrev pub parted : FreeAreas → (from to : Class) → (order first count : ℕ) → FreeAreas
parted a from to order first count =
    record a {
      lists = written a.lists (5 * order + class_index from) (5 * order + class_index to)
          (staying (free_list a from order) first count) (going (free_list a from order) first count);
    }

-- one frame more
parted-step : (a : FreeAreas) (from to : Class) (order first count : ℕ) (on : Bool) → HasOrder a order
    → is_on (first + count) (free_list a from order) ≡ on
    → cond on (with_back (without_free (parted a from to order first count) from order (first + count)) to
    order (first + count)) (parted a from to order first count)
    ≡ parted a from to order first (suc count)
parted-step a from to order first count true has is =
    let i : ℕ = 5 * order + class_index from in
    let j : ℕ = 5 * order + class_index to in
    let x : ℕ = first + count in
    let frames : List ℕ = free_list a from order in
    ap (λ (ls : List (List ℕ)). record a { lists = ls })
    (written-more a.lists i j x (staying frames first count) (going frames first count)
    (omega (arith, has, class_index-lt from)) (omega (arith, has, class_index-lt to))
    (going-off frames first count)
    ∙ ap (λ (xs : List ℕ). written a.lists i j xs (going frames first count ++ x ∷ []))
    (staying-more frames first count)
    ∙ ap (λ (xs : List ℕ). written a.lists i j (staying frames first (suc count)) xs)
    (ap (λ (b : Bool). going frames first count ++ cond b (x ∷ []) []) (sym is)
    ∙ sym (going-more frames first count)))
parted-step a from to order first count false has is =
    let i : ℕ = 5 * order + class_index from in
    let j : ℕ = 5 * order + class_index to in
    let x : ℕ = first + count in
    let frames : List ℕ = free_list a from order in
    ap (λ (ls : List (List ℕ)). record a { lists = ls })
    (ap (λ (xs : List ℕ). written a.lists i j xs (going frames first count))
    (sym (is_on-none x (staying frames first count) (staying-on frames first count ∙ is))
    ∙ staying-more frames first count)
    ∙ ap (λ (xs : List ℕ). written a.lists i j (staying frames first (suc count)) xs)
    (sym (append-nil (going frames first count)) ∙ ap (λ (b : Bool).
    going frames first count ++ cond b (x ∷ []) []) (sym is) ∙ sym (going-more frames first count)))

-- whether the next frame starts a free block
parted-on : (a : FreeAreas) (from to : Class) (order first count : ℕ) → HasOrder a order
    → is_on (first + count) (free_list (parted a from to order first count) from order)
    ≡ is_on (first + count) (free_list a from order)
parted-on a from to order first count has =
    let frames : List ℕ = free_list a from order in
    written-on a.lists (5 * order + class_index from) (5 * order + class_index to) (first + count)
    (staying frames first count) (going frames first count)
    (omega (arith, has, class_index-lt from)) (omega (arith, has, class_index-lt to))
    (going-off frames first count)
    ∙ staying-on frames first count

-- all stay at first
stay_all : (first : ℕ) (xs : List ℕ) → staying xs first zero ≡ xs
stay_all first [] = refl
stay_all first (x ∷ xs) =
    cond-true (not (is_among first zero x)) (x ∷ staying xs first zero) (staying xs first zero) (none first x)
    ∙ ap (λ (ys : List ℕ). x ∷ ys) (stay_all first xs)
  where
    none : (first x : ℕ) → not (is_among first zero x) ≡ true
    none first x = grind (arith, nat_tests)

-- no frame moved
parted-none : (a : FreeAreas) (from to : Class) (order first : ℕ) → parted a from to order first zero ≡ a
parted-none a from to order first =
    let i : ℕ = 5 * order + class_index from in
    let j : ℕ = 5 * order + class_index to in
    rw (stay_all first (get_or a.lists i []), set-get_or a.lists i [])
    (rw (append-nil (get_or a.lists j []), set-get_or a.lists j []))

-- moving blocks one at a time is moving them at once
pub move_first-parted : (a : FreeAreas) (from to : Class) (order first count : ℕ) → HasOrder a order
    → move_first a from to order first count ≡ parted a from to order first count
move_first-parted a from to order first zero has = sym (parted-none a from to order first)
move_first-parted a from to order first (suc count) has =
    rw (move_first-parted a from to order first count has)
    (parted-step a from to order first count (is_on (first + count) (free_list
    (parted a from to order first count) from order)) has (sym (parted-on a from to order first count has)))

-- a frame is free when its turn comes exactly if it was free at first
pub move_first-on : (a : FreeAreas) (from to : Class) (order first count : ℕ) → HasOrder a order
    → is_on (first + count) (free_list (move_first a from to order first count) from order)
    ≡ is_on (first + count) (free_list a from order)
move_first-on a from to order first count has =
    rw (move_first-parted a from to order first count has) (parted-on a from to order first count has)
