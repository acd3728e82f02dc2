-- What keeps the free frames within their layout.
use Rattle.std.proofs.Common.{◌≡◌, ℕ, ◌+◌, ◌*◌, ◌^◌, ◌<◌, ◌≤◌, List, [], ◌∷◌, ◌++◌, length, get_or, set, true, sym, ◌∙◌, ap, subst, arith, inl, inr, ◌==◌}
use Rattle.std.specs.Prelude.{◌⊎◌}
use Rattle.std.proofs.lemmas.List.{get_or-set_other, get_or-set_same, length-set, set_past}
use Rattle.std.proofs.lemmas.List.Folds.{list_any-append}
use Rattle.std.proofs.lemmas.Bool.{cases_eq, cases_lt, or_cases, false≢true}
use Rattle.hp_units.specs.LayoutParts.{LayoutParts}
use Rattle.hp_plain.specs.Names.{Class, Nu, Nm, Mm, IsoN, IsoM}
use Rattle.hp_units.specs.Arithmetic.{frame_count}
use Rattle.hp_units.specs.Memory.{FreeAreas, FreeFrames, free_list, class_index}
use Rattle.hp_units.specs.FreeAreas.{is_on, with_back}
use Rattle.hp_units.specs.InLayout.{AreFreeAreasOf, AreFreeFramesOf}
use Rattle.hp_units.proofs.Lists.{on_cases}

-- a frame on two lists joined is on one of them
pub on_append : (frame : ℕ) (xs ys : List ℕ) → is_on frame (xs ++ ys) ≡ true
    → (is_on frame xs ≡ true) ⊎ (is_on frame ys ≡ true)
on_append frame xs ys on =
    or_cases (is_on frame xs) (is_on frame ys) (sym (list_any-append (λ other. other == frame) xs ys) ∙ on)

-- a frame on one of the lists after one was written is on the list written, or was on the same list
-- before
pub on-set : (lists : List (List ℕ)) (i j : ℕ) (frames : List ℕ) (frame : ℕ)
    → is_on frame (get_or (set lists i frames) j []) ≡ true
    → ((j ≡ i) × (is_on frame frames ≡ true)) ⊎ (is_on frame (get_or lists j []) ≡ true)
on-set lists i j frames frame on = elim (cases_eq j i) [
  | inl same ↦ elim (cases_lt i (length lists)) [
    | inl there ↦
        let e : get_or (set lists i frames) j [] ≡ frames =
        ap (λ (k : ℕ). get_or (set lists i frames) k []) same ∙ get_or-set_same lists i frames [] there in
        inl (same, subst (λ (xs : List ℕ). is_on frame xs ≡ true) e on)
    | inr past ↦
        inr (rw (← set_past lists i frames past) on)
  ]
  | inr apart ↦
      inr (subst (λ (xs : List ℕ). is_on frame xs ≡ true) (get_or-set_other lists i j frames [] apart) on)
]

-- ---- the free frames written

-- the areas replaced
pub of_areas : (l : LayoutParts) (fs : FreeFrames) (a : FreeAreas) → AreFreeFramesOf l fs → AreFreeAreasOf l a
    → AreFreeFramesOf l (record fs { areas = a })
of_areas l fs a of areas = record { areas = areas; lists = of.lists; cached = of.cached }

-- the number of a class is low
pub class_below : (class : Class) → class_index class < 5
class_below Nu = omega arith
class_below Nm = omega arith
class_below Mm = omega arith
class_below IsoN = omega arith
class_below IsoM = omega arith

-- a free block added
pub of_back : (l : LayoutParts) (a : FreeAreas) (class : Class) (order first : ℕ) → AreFreeAreasOf l a
    → first + 2 ^ order ≤ frame_count l
    → AreFreeAreasOf l (with_back a class order first)
of_back l a class order first of within = record {
  lists =
      length-set a.lists (5 * order + class_index class) (free_list a class order ++ first ∷ []) ∙ of.lists;
  kinds = of.kinds;
  free =
      λ c o frame on. elim (on-set a.lists (5 * order + class_index class) (5 * o + class_index c)
      (free_list a class order ++ first ∷ []) frame on) [
        | inl new ↦
            let low : class_index class < 5 = class_below class in
            let lower : class_index c < 5 = class_below c in
            let same : order ≡ o = omega (arith, new.0) in
            subst (λ (n : ℕ). frame + 2 ^ n ≤ frame_count l) same
            (elim (on_append frame (free_list a class order) (first ∷ []) new.1) [
              | inl old ↦ of.free class order frame old
              | inr back ↦ elim (on_cases frame first [] back) [
                | inl is ↦ subst (λ (f : ℕ). f + 2 ^ order ≤ frame_count l) is within
                | inr none ↦ absurd (false≢true none)
              ]
            ])
        | inr old ↦ of.free c o frame old
      ];
}
