-- Marks, one after another.
use Rattle.std.proofs.Common.{arith, ◌≡◌, ℕ, ◌+◌, ◌<◌, ◌==◌, ◌||◌, inl, inr, Bool, false, cond, List, [], ◌∷◌, ◌++◌, length, set, get_or, take, Option, Some, option_map, slice_get, refl, sym, ap, subst, ◌∙◌, add-one}
use Rattle.std.proofs.lemmas.Bool.{cases_eq, cases_lt, eq-eqb, ne_eqb}
use Rattle.std.proofs.lemmas.List.{take_more, length-set, get_or-set_other}
use Rattle.std.proofs.lemmas.List.Folds.{list_any-append}
use Rattle.std.proofs.lemmas.Option.{slice_get-get_or, slice_get_past}
use Rattle.hp_units.specs.FreeAreas.{is_on}
use Rattle.hp_map.specs.declared.places.Place.{Place}
use Rattle.hp_units.proofs.Tables.{get_set}
use Rattle.hp_map.specs.Marks.{AreMarked, Mark, at_frame, marks_below, on_list}

-- what changes nothing, and one thing after another
pub map_same : (f : Place → Place) → ((p : Place) → f p ≡ p) → (o : Option Place) → option_map f o ≡ o
map_same f same o = grind arith

-- a place that was set leaves the others
get_other : (xs : List Place) (i k : ℕ) (p : Place) → (k ≡ i → ⊥) → slice_get (set xs i p) k ≡ slice_get xs k
get_other xs i k p other = elim (cases_lt k (length xs)) [
  | inl within ↦
      slice_get-get_or (set xs i p) k p (rw length-set within)
      ∙ (ap (λ y. Some y) (get_or-set_other xs i k p p other) ∙ sym (slice_get-get_or xs k p within))
  | inr past ↦ slice_get_past (set xs i p) k (rw length-set past) ∙ sym (slice_get_past xs k past)
]

hit_is : (i : ℕ) (p q : Place) → at_frame i p i q ≡ p
hit_is i p q = ap (λ (b : Bool). cond b p q) (eq-eqb i i refl)

miss_is : (i k : ℕ) (p q : Place) → (i ≡ k → ⊥) → at_frame i p k q ≡ q
miss_is i k p q other = ap (λ (b : Bool). cond b p q) (ne_eqb i k other)

-- one frame's place is set
pub set_marks : (xs : List Place) (i : ℕ) (p : Place) → i < length xs
    → AreMarked (at_frame i p) xs (set xs i p)
set_marks xs i p lt = λ k. elim (cases_eq i k) [
  | inl same ↦
      let base : slice_get (set xs i p) i ≡ option_map (at_frame i p i) (slice_get xs i) =
      get_set xs i p lt ∙ sym (ap (option_map (at_frame i p i)) (slice_get-get_or xs i p lt)
      ∙ ap (λ q. Some q) (hit_is i p (get_or xs i p))) in
      subst (λ (n : ℕ). slice_get (set xs i p) n ≡ option_map (at_frame i p n) (slice_get xs n)) same base
  | inr other ↦
      get_other xs i k p (λ e. other (sym e))
      ∙ sym (map_same (at_frame i p k) (λ q. miss_is i k p q other) (slice_get xs k))
]

-- marks after marks
pub marks_then : (f g h : Mark) (old now new : List Place) → ((k : ℕ) (p : Place) → g k (f k p) ≡ h k p)
    → AreMarked f old now → AreMarked g now new → AreMarked h old new
marks_then f g h old now new same first second = grind arith

-- none below 0, and one number more
pub marks_none : (marks : ℕ → Mark) (old : List Place) → AreMarked (marks_below marks 0) old old
unfolding marks_below
marks_none marks old = grind arith

pub marks_more : (marks : ℕ → Mark) (n : ℕ) (old now new : List Place)
    → AreMarked (marks_below marks n) old now → AreMarked (marks n) now new
    → AreMarked (marks_below marks (n + 1)) old new
unfolding marks_below
marks_more marks n old now new first second = grind (arith, marks_then, add-one)

pub marks_more_as : (marks : ℕ → Mark) (n : ℕ) (mark : Mark) (old now new : List Place) → mark ≡ marks n
    → AreMarked (marks_below marks n) old now → AreMarked mark now new
    → AreMarked (marks_below marks (n + 1)) old new
marks_more_as marks n mark old now new is first second =
    marks_more marks n old now new first (rw (← is) second)

-- the first frames of a list, and one more
list_one : (a b : Bool) (place p : Place) → cond b place (cond a place p) ≡ cond (a || (b || false)) place p
list_one a b place p = grind arith

pub list_more : (frames : List ℕ) (i : ℕ) (frame : ℕ) (place : Place) (old now new : List Place)
    → i < length frames → frame ≡ get_or frames i frame
    → AreMarked (on_list (take i frames) place) old now → AreMarked (at_frame frame place) now new
    → AreMarked (on_list (take (i + 1) frames) place) old new
list_more frames i frame place old now new lt is first second =
    let one : take (i + 1) frames ≡ take i frames ++ frame ∷ [] = rw (take_more frames i frame lt, ← is) in
    let on : (k : ℕ) → is_on k (take (i + 1) frames) ≡ (is_on k (take i frames) || ((frame == k) || false)) =
    λ k. ap (is_on k) one ∙ list_any-append (λ other. other == k) (take i frames) (frame ∷ []) in
    marks_then (on_list (take i frames) place) (at_frame frame place) (on_list (take (i + 1) frames) place)
    old now new
    (λ k p. list_one (is_on k (take i frames)) (frame == k) place p
    ∙ ap (λ (b : Bool). cond b place p) (sym (on k))) first second
