-- The frames of a list, one after another in place.
use Rattle.std.proofs.Common.{ℕ, zero, suc, ◌≡◌, ◌+◌, ◌<◌, ◌==◌, List, [], ◌∷◌, ◌++◌, Some, length, slice_get, take, refl, sym, ◌∙◌, ap, arith, eq-eqb, ne_eqb}
use Rattle.std.specs.List.{flat_map}
use Rattle.std.proofs.lemmas.Bool.{cond-false, cond-true}
use Rattle.std.proofs.lemmas.Option.{get_or_from_slice_get, same_Some, slice_get_within}
use Rattle.hp_buddy.specs.LinkedLists.{IsApart, IsOn, LinkedLists, first, list_at, successor}
use Rattle.hp_states.specs.Numbers.{number_code}
use Rattle.hp_states.proofs.Loops.{one_more}

first_is : (xs : List ℕ) → first xs ≡ slice_get xs 0
first_is [] = refl
first_is (x ∷ xs) = refl

-- the frame after one that does not come before is that of the next place
successor_at : (f i : ℕ) (xs : List ℕ) → ((j : ℕ) → j < i → slice_get xs j ≡ Some f → ⊥)
    → slice_get xs i ≡ Some f → successor f xs ≡ slice_get xs (suc i)
successor_at f i [] before e = cc
successor_at f zero (x ∷ xs) before e =
    cond-true (x == f) (first xs) (successor f xs) (eq-eqb x f (same_Some x f e)) ∙ first_is xs
successor_at f (suc i) (x ∷ xs) before e =
    cond-false (x == f) (first xs) (successor f xs)
    (ne_eqb x f (λ same. before zero (omega arith) (ap Some same)))
    ∙ successor_at f i xs (λ j low. before (suc j) (omega (arith, low))) e

-- a frame at a place of a list is on it, and what comes after it
pub record HasNext (links : LinkedLists) (list i f : ℕ) : Type 0 where
  pub on : IsOn links list f
  pub next : successor f (list_at links list) ≡ slice_get (list_at links list) (i + 1)

pub has_next : (links : LinkedLists) (list i f : ℕ) → IsApart links
    → slice_get (list_at links list) i ≡ Some f → HasNext links list i f
has_next links list i f apart e =
    let xs : List ℕ = list_at links list in
    let low : i < length xs = slice_get_within xs i f e in
    let on : IsOn links list f = (i, low, get_or_from_slice_get xs i f f e) in
    record {
      on = on;
      next =
          successor_at f i xs
          (λ j less here.
          let same : i ≡ j =
          apart.once list i j low (slice_get_within xs j f here)
          (get_or_from_slice_get xs i f 0 e ∙ sym (get_or_from_slice_get xs j f 0 here)) in
          absurd (omega (arith, same, less))) e
          ∙ ap (slice_get xs) (omega arith);
    }

-- ---- the numbers of a list's frames

-- one frame more
pub frame_more : (start before after xs : List ℕ) (i f number : ℕ) → slice_get xs i ≡ Some f → number ≡ f
    → before ≡ start ++ flat_map number_code (take i xs) → after ≡ before ++ number_code number
    → after ≡ start ++ flat_map number_code (take (i + 1) xs)
frame_more start before after xs i f number e is so_far more =
    one_more number_code start before after xs i 0 (slice_get_within xs i f e) so_far
    (more ∙ ap (λ (n : ℕ). before ++ number_code n) (is ∙ sym (get_or_from_slice_get xs i f 0 e)))
