-- Places in lists, and in a list of lists that each grow.
use Rattle.std.proofs.Common.{◌≡◌, ℕ, zero, suc, ◌+◌, ◌<◌, List, [], ◌∷◌, ◌++◌, length, map, Bool, false, slice_get, Option, Some, None, sym, subst, ◌∙◌, arith, inl, inr}
use Rattle.std.specs.Prelude.{◌⊎◌}
use Rattle.std.specs.List.{list_all, range_with_len}
use Rattle.std.proofs.lemmas.List.FromFn.{get_or-map-range_with_len, length-map-range_with_len}
use Rattle.std.proofs.lemmas.Option.{same_Some, slice_get_read, slice_get_within}
use Rattle.hp_laws.proofs.Lists.{get_left}
use Rattle.hp_laws.proofs.SealedNets.{get_append_cases, get_right}

-- where one item fails, not all pass
pub not_all : {A : Type 0} (p : A → Bool) (xs : List A) (k : ℕ) (x : A) → slice_get xs k ≡ Some x
    → p x ≡ false → list_all p xs ≡ false
not_all p [] k x here fails = absurd cc
not_all p (y ∷ xs) zero x here fails = grind arith
not_all p (y ∷ xs) (suc k) x here fails = grind (arith, not_all p xs k x here fails)

-- ---- the values of a function

pub at_range : {A : Type 0} (f : ℕ → A) (n k : ℕ) → k < n
    → slice_get (map f (range_with_len 0 n)) k ≡ Some (f k)
at_range f n k less =
    slice_get_read (map f (range_with_len 0 n)) n k (f k) (sym (length-map-range_with_len f 0 n)) less
    (sym (get_or-map-range_with_len f 0 n k k (f k) less (omega arith)))

pub range_is : {A : Type 0} (f : ℕ → A) (n k : ℕ) (x : A)
    → slice_get (map f (range_with_len 0 n)) k ≡ Some x → (k < n) × (x ≡ f k)
range_is f n k x is =
    let less = rw (length-map-range_with_len f 0 n) at
    (slice_get_within (map f (range_with_len 0 n)) k x is) in
    (less, same_Some x (f k) (sym is ∙ at_range f n k less))

-- ---- items with a property

-- one of the items has it
abbrev pub HasOne : {A : Type 0} → (Q : A → Type 0) → List A → Type 0
HasOne {A} Q xs = (at : ℕ) × (x : A) × (slice_get xs at ≡ Some x) × Q x

pub one_left : {A : Type 0} (Q : A → Type 0) (xs ys : List A) → HasOne Q xs → HasOne Q (xs ++ ys)
one_left Q xs ys has =
    (has.0, has.1, get_left xs ys has.0 (slice_get_within xs has.0 has.1 has.2) ∙ has.2, has.3)

one_right : {A : Type 0} (Q : A → Type 0) (xs ys : List A) → HasOne Q ys → HasOne Q (xs ++ ys)
one_right Q xs ys has = (length xs + has.0, has.1, get_right xs ys has.0 ∙ has.2, has.3)

one_cases : {A : Type 0} (Q : A → Type 0) (xs ys : List A) → HasOne Q (xs ++ ys) → HasOne Q xs ⊎ HasOne Q ys
one_cases Q xs ys has = elim (get_append_cases xs ys has.0 has.1 has.2) [
  | inl at ↦ inl (has.0, has.1, at, has.3)
  | inr past ↦ inr (past.place, has.1, past.here, has.3)
]

-- ---- lists with a property, among the values of a function below a number

-- the list at a place has it, or one of them if there is no place
abbrev pub Among : {A : Type 0} → (R : A → Type 0) → (f : ℕ → A) → (n : ℕ) → Option ℕ → Type 0
Among {A} R f n None =
    (k : ℕ) × (x : A) × (slice_get (map f (range_with_len 0 n)) k ≡ Some x) × R x
Among {A} R f n (Some k) = (x : A) × (slice_get (map f (range_with_len 0 n)) k ≡ Some x) × R x

-- what has it has it still
pub among_kept : {A : Type 0} (R : A → Type 0) (n : ℕ) (f g : ℕ → A) → ((k : ℕ) → k < n → R (f k) → R (g k))
    → (place : Option ℕ) → Among R f n place → Among R g n place
among_kept R n f g kept None has =
    let is = range_is f n has.0 has.1 has.2 in
    (has.0, g has.0, at_range g n has.0 is.0, kept has.0 is.0 (subst R is.1 has.3))
among_kept R n f g kept (Some k) has =
    let is = range_is f n k has.0 has.1 in (g k, at_range g n k is.0, kept k is.0 (subst R is.1 has.2))

-- `f` and `g` become `f_later` and `g_later`, and what got it on the one side got it on the other
pub among_carried : {A : Type 0} (R : A → Type 0) (n : ℕ) (f g f_later g_later : ℕ → A)
    → ((k : ℕ) → k < n → R (f_later k) → R (f k) ⊎ R (g_later k))
    → ((k : ℕ) → k < n → R (g k) → R (g_later k))
    → (place : Option ℕ) → (Among R f n place → Among R g n place)
    → Among R f_later n place → Among R g_later n place
among_carried R n f g f_later g_later cases kept None so_far has =
    let is = range_is f_later n has.0 has.1 has.2 in
    elim (cases has.0 is.0 (subst R is.1 has.3)) [
      | inl x ↦ among_kept R n g g_later kept None (so_far (has.0, f has.0, at_range f n has.0 is.0, x))
      | inr x ↦ (has.0, g_later has.0, at_range g_later n has.0 is.0, x)
    ]
among_carried R n f g f_later g_later cases kept (Some k) so_far has =
    let is = range_is f_later n k has.0 has.1 in
    elim (cases k is.0 (subst R is.1 has.2)) [
      | inl x ↦ among_kept R n g g_later kept (Some k) (so_far (f k, at_range f n k is.0, x))
      | inr x ↦ (g_later k, at_range g_later n k is.0, x)
    ]

-- lists that grow by the same items on both sides
pub grown_carried : {A : Type 0} (Q : A → Type 0) (n : ℕ) (f g f_later g_later : ℕ → List A)
    → ((k : ℕ) → k < n → (later : List A) × (f_later k ≡ f k ++ later) × (g_later k ≡ g k ++ later))
    → (place : Option ℕ) → (Among (HasOne Q) f n place → Among (HasOne Q) g n place)
    → Among (HasOne Q) f_later n place → Among (HasOne Q) g_later n place
grown_carried Q n f g f_later g_later grown =
    among_carried (HasOne Q) n f g f_later g_later
    (λ k less has.
    let more = grown k less in
    elim (one_cases Q (f k) more.0 (subst (HasOne Q) more.1 has)) [
      | inl x ↦ inl x
      | inr x ↦ inr (subst (HasOne Q) (sym more.2) (one_right Q (g k) more.0 x))
    ])
    (λ k less has. let more = grown k less in subst (HasOne Q) (sym more.2) (one_left Q (g k) more.0 has))
