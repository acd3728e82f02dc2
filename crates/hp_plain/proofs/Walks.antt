-- One more step in a walk over numbered entries.
use Rattle.std.proofs.Common.{◌≡◌, ℕ, ◌+◌, ◌<◌, List, [], ◌∷◌, ◌++◌, length, get_or, take, ◌∙◌, ap, arith}
use Rattle.std.specs.List.{fold, enumerate_from}
use Rattle.std.proofs.lemmas.List.{take_more, length-take}
use Rattle.std.proofs.lemmas.List.Sums.{fold_push}

-- numbered entries, with one more entry
enumerate_push : {X : Type 0} (n : ℕ) (xs : List X) (x : X)
    → enumerate_from n (xs ++ x ∷ []) ≡ enumerate_from n xs ++ (n + length xs, x) ∷ []
enumerate_push n [] x = ap (λ (k : ℕ). (k, x) ∷ []) (omega arith)
enumerate_push {X} n (y ∷ ys) x =
    ap (λ (es : List (ℕ × X)). (n, y) ∷ es)
    (enumerate_push (n + 1) ys x ∙ ap (λ (k : ℕ). enumerate_from (n + 1) ys ++ (k, x) ∷ []) (omega arith))

-- a fold over numbered entries, with one more entry
pub fold-enumerate_more : {X B : Type 0} (f : B → ℕ × X → B) (b : B) (xs : List X) (i : ℕ) (d : X)
    → i < length xs
    → fold f b (enumerate_from 0 (take (i + 1) xs))
    ≡ f (fold f b (enumerate_from 0 (take i xs))) (i, get_or xs i d)
fold-enumerate_more {X} {B} f b xs i d below =
    let number : 0 + length (take i xs) ≡ i = omega (arith, length-take {A = X}) in
    rw (take_more xs i d below, enumerate_push 0 (take i xs) (get_or xs i d))
    (rw (fold_push f b (enumerate_from 0 (take i xs)) (0 + length (take i xs), get_or xs i d), number))
