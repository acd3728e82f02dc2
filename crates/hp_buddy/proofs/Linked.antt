-- The lists of links in the words of the free areas.
use Rattle.std.proofs.Common.{◌≡◌, ℕ, zero, suc, ◌/◌, ◌<◌, List, [], ◌∷◌, ◌++◌, length, get_or, Bool, true, false, not, cond, Option, Some, None, refl, sym, ◌∙◌, ap, subst, arith, inl, inr, ◌==◌, ◌||◌, ◌&&◌, eq-eqb, ne_eqb}
use Rattle.std.specs.List.{Contains, list_all}
use Rattle.std.proofs.lemmas.Bool.{cases_lt, or_left, both_ways, false_from_ne_true, cond-true, cond-false}
use Rattle.std.proofs.lemmas.List.{get_or_past}
use Rattle.hp_units.specs.declared.rows.Kind.{Kind}
use Rattle.hp_units.specs.Memory.{FreeAreas}
use Rattle.hp_units.specs.FreeAreas.{is_on, without}
use Rattle.hp_units.specs.Placement.{free_places}
use Rattle.hp_tape.specs.Deltas.{put_behind, is_behind}
use Rattle.hp_buddy.specs.LinkedLists.{LinkedLists, IsUnlisted, last_from, with_behind, last, without as without_first}
use Rattle.hp_units.proofs.Places.{places_from-set}
use Rattle.hp_units.proofs.Joins.{is_on-none}
use Rattle.hp_units.proofs.ListEdits.{on_cases, on_tail, on-places}

-- the free areas that links and kinds show
abbrev pub areas_of : LinkedLists → List Kind → FreeAreas
areas_of links kinds = record { lists = links.lists; kinds = kinds }

-- ---- whether a frame is on a list

-- what a list `Contains` is on it
pub contains_on : (f : ℕ) (xs : List ℕ) → Contains xs f → is_on f xs ≡ true
contains_on f xs h = at f xs h.0 h.1 h.2
  where
    at : (f : ℕ) (xs : List ℕ) (k : ℕ) → k < length xs → get_or xs k f ≡ f → is_on f xs ≡ true
    at f [] k lt e = absurd (omega arith)
    at f (x ∷ xs) zero lt e = or_left (x == f) (is_on f xs) (eq-eqb x f e)
    at f (x ∷ xs) (suc k) lt e = or_right (x == f) (is_on f xs) (at f xs k (omega arith) e)
      where
        or_right : (a b : Bool) → b ≡ true → (a || b) ≡ true
        or_right true b h = refl
        or_right false b h = h

-- what is on a list, the list `Contains`
pub on_contains : (f : ℕ) (xs : List ℕ) → is_on f xs ≡ true → Contains xs f
on_contains f [] on = cc
on_contains f (x ∷ xs) on = elim (on_cases f x xs on) [
  | inl same ↦ (0, omega arith, same)
  | inr there ↦ let h = on_contains f xs there in (suc h.0, omega (arith, h.1), h.2)
]

-- a frame of no free block is on no list
pub unlisted : (links : LinkedLists) (kinds : List Kind) (f : ℕ) → free_places (areas_of links kinds) f ≡ 0
    → IsUnlisted links f
unlisted links kinds f none n on =
    let there : is_on f (get_or links.lists n []) ≡ true = contains_on f (get_or links.lists n []) on in
    elim (cases_lt n (length links.lists)) [
      | inl below ↦
          omega (
            arith,
            none,
            on-places f (n / 5) (get_or links.lists n []) there,
            places_from-set f 0 n n links.lists [] (omega arith) below,
          )
      | inr past ↦
          both_ways (is_on f []) refl
          (subst (λ (xs : List ℕ). is_on f xs ≡ true) (get_or_past links.lists n [] past) there)
    ]

-- an unlisted frame is not on list `n`
pub off_list : (links : LinkedLists) (f n : ℕ) → IsUnlisted links f
    → is_on f (get_or links.lists n []) ≡ false
off_list links f n none =
    false_from_ne_true (is_on f (get_or links.lists n []))
    (λ on. none n (on_contains f (get_or links.lists n []) on))

-- a frame that is on no list `n` is on none of all lists
pub off_all : (f : ℕ) (lists : List (List ℕ)) → ((n : ℕ) → is_on f (get_or lists n []) ≡ false)
    → list_all (λ other. not (is_on f other)) lists ≡ true
off_all f [] off = refl
off_all f (frames ∷ lists) off =
    both (is_on f frames) (list_all (λ other. not (is_on f other)) lists) (off 0)
    (off_all f lists (λ n. off (suc n)))
  where
    both : (a b : Bool) → a ≡ false → b ≡ true → (not a && b) ≡ true
    both true b e h = cc
    both false b e h = h

-- ---- a frame leaves its list, and comes back

-- if a frame is on a list only once, both ways of taking it off the list agree
pub without-same : (f : ℕ) (xs : List ℕ) → is_on f (without_first f xs) ≡ false
    → without_first f xs ≡ without f xs
without-same f [] off = refl
without-same f (x ∷ xs) off = step (x == f) f x xs refl off (without-same f xs)
  where
    step : (same : Bool) (f x : ℕ) (xs : List ℕ) → (x == f) ≡ same
        → is_on f (cond same xs (x ∷ without_first f xs)) ≡ false
        → (is_on f (without_first f xs) ≡ false → without_first f xs ≡ without f xs)
        → cond same xs (x ∷ without_first f xs) ≡ cond (not same) (x ∷ without f xs) (without f xs)
    step true f x xs e off rest = sym (is_on-none f xs off)
    step false f x xs e off rest = ap (λ (ys : List ℕ). x ∷ ys) (rest (rw e at off))

-- both ways of putting a frame after another agree
pub put_behind-same : (after : Option ℕ) (f : ℕ) (xs : List ℕ)
    → put_behind after f xs ≡ with_behind after f xs
put_behind-same None f xs = refl
put_behind-same (Some after) f [] = refl
put_behind-same (Some after) f (x ∷ xs) = rw (put_behind-same (Some after) f xs)

-- ---- lists without duplicates

-- no frame is twice on a list
abbrev pub AreDistinct : List ℕ → Type 0
AreDistinct [] = Unit {0}
AreDistinct (x ∷ xs) = (is_on x xs ≡ false) × AreDistinct xs

-- the last frame of a list, if it has one
record IsLast (found : Option ℕ) (xs : List ℕ) : Type 0 where
  pub frame : ℕ
  pub is : found ≡ Some frame
  pub on : is_on frame xs ≡ true

-- the last frame is on the list
last-is : (x : ℕ) (xs : List ℕ) → IsLast (last_from (Some x) xs) (x ∷ xs)
last-is x [] = record { frame = x; is = refl; on = or_left (x == x) false (eq-eqb x x refl) }
last-is x (y ∷ ys) =
    let rest = last-is y ys in
    record { frame = rest.frame; is = rest.is; on = on_tail rest.frame x (y ∷ ys) rest.on }

-- a frame is put after the last one
behind-last_from : (x f : ℕ) (xs : List ℕ) → AreDistinct (x ∷ xs)
    → is_behind (last_from (Some x) xs) f (x ∷ (xs ++ f ∷ [])) ≡ true
behind-last_from x f [] d = cond-true (x == x) (f == f) _ (eq-eqb x x refl) ∙ eq-eqb f f refl
behind-last_from x f (y ∷ ys) d =
    let rest = last-is y ys in
    let other : (x == rest.frame) ≡ false =
    ne_eqb x rest.frame (λ same.
    both_ways (is_on x (y ∷ ys)) d.0 (subst (λ (z : ℕ). is_on z (y ∷ ys) ≡ true) (sym same) rest.on)) in
    ap (λ (o : Option ℕ). is_behind o f (x ∷ y ∷ (ys ++ f ∷ []))) rest.is
    ∙ cond-false (x == rest.frame) _ (is_behind (Some rest.frame) f (y ∷ (ys ++ f ∷ []))) other
    ∙ ap (λ (o : Option ℕ). is_behind o f (y ∷ (ys ++ f ∷ []))) (sym rest.is)
    ∙ behind-last_from y f ys d.1

-- a frame put at the back comes after the last one
pub behind-last : (f : ℕ) (xs : List ℕ) → AreDistinct xs → is_behind (last xs) f (xs ++ f ∷ []) ≡ true
behind-last f [] d = eq-eqb f f refl
behind-last f (x ∷ xs) d = behind-last_from x f xs d

-- a frame that was at the front, or at the back, leaves the list as it was
pub without-front : (f : ℕ) (xs : List ℕ) → is_on f xs ≡ false → without f (f ∷ xs) ≡ xs
without-front f xs off =
    cond-false (not (f == f)) (f ∷ without f xs) (without f xs) (ap not (eq-eqb f f refl))
    ∙ is_on-none f xs off

-- and at the back
pub without-back : (f : ℕ) (xs : List ℕ) → is_on f xs ≡ false → without f (xs ++ f ∷ []) ≡ xs
without-back f [] off = without-front f [] refl
without-back f (x ∷ xs) off = step (x == f) f x xs off (without-back f xs)
  where
    step : (same : Bool) (f x : ℕ) (xs : List ℕ) → (same || is_on f xs) ≡ false
        → (is_on f xs ≡ false → without f (xs ++ f ∷ []) ≡ xs)
        → cond (not same) (x ∷ without f (xs ++ f ∷ [])) (without f (xs ++ f ∷ [])) ≡ x ∷ xs
    step true f x xs off rest = cc
    step false f x xs off rest = ap (λ (ys : List ℕ). x ∷ ys) (rest off)
