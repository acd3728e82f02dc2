-- What holds of the value that an option has, if it has one.
use Rattle.std.proofs.Common.{◌≡◌, Bool, true, false, cond, List, [], ◌∷◌, Option, Some, None, refl, IfSome, ◌⊎◌, inl, inr}
use Rattle.std.specs.Prelude.{find}
use Rattle.std.specs.Option.{option_map, option_map_or}

-- it is None, or has an item
pub cases_option : {A : Type 0} (o : Option A) → (o ≡ None) ⊎ ((x : A) × (o ≡ Some x))
cases_option None = inl refl
cases_option (Some x) = inr (x, refl)

-- a weaker statement of the value
pub some_weaker : {X : Type 0} (P Q : X → Type 0) → ((x : X) → P x → Q x) → (o : Option X) → IfSome o P
    → IfSome o Q
some_weaker P Q h None some = tt
some_weaker P Q h (Some x) some = h x some

-- where the first item passes a test it is what is found, and otherwise the rest is asked
pub cond_none : {X : Type 0} (b : Bool) (x : X) (o : Option X) → cond b (Some x) o ≡ None
    → (b ≡ false) × (o ≡ None)
cond_none true x o e = cc
cond_none false x o e = (refl, e)

pub cond_some : {X : Type 0} (b : Bool) (x y : X) (o : Option X) → cond b (Some x) o ≡ Some y
    → ((b ≡ true) × (x ≡ y)) ⊎ (o ≡ Some y)
cond_some true x y o e = inl (refl, cc)
cond_some false x y o e = inr e

-- what is found passes its test, and passes no test that finds nothing
pub found_passes : {X : Type 0} (p : X → Bool) (xs : List X) (x : X) → find p xs ≡ Some x → p x ≡ true
found_passes p [] x e = cc
found_passes p (y ∷ ys) x e = elim (cond_some (p y) y x _ e) [
  | inl here ↦ rw (← here.1) here.0
  | inr later ↦ found_passes p ys x later
]

pub found_fails : {X : Type 0} (p q : X → Bool) (xs : List X) (x : X) → find p xs ≡ None → find q xs ≡ Some x
    → p x ≡ false
found_fails p q [] x none e = cc
found_fails p q (y ∷ ys) x none e =
    let fails = cond_none (p y) y _ none in
    elim (cond_some (q y) y x _ e) [
      | inl here ↦ rw (← here.1) fails.0
      | inr later ↦ found_fails p q ys x fails.1 later
    ]

-- what is made of an option, by whether it has a value
pub option_cases : {X Y : Type 0} (P : Y → Type 0) (f : X → Y) (o : Option X) (y : Y)
    → ((x : X) → o ≡ Some x → P (f x)) → (o ≡ None → P y) → P (option_map_or f o y)
option_cases P f None y some none = none refl
option_cases P f (Some x) y some none = some x refl

-- a value is there where what is made of it is
pub map_none : {X Y : Type 0} (f : X → Y) (o : Option X) → option_map f o ≡ None → o ≡ None
map_none f None e = refl
map_none f (Some x) e = cc
