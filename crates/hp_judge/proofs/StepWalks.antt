-- What rising numbers give, one more after another.
use Rattle.std.proofs.Common.{◌≡◌, ℕ, zero, suc, ◌+◌, List, [], ◌∷◌, ◌++◌, ap, ◌∙◌, add-one, arith}
use Rattle.std.proofs.lemmas.List.{flat_map_more}
use Rattle.std.specs.List.{flat_map, range_with_len}

range_more : (a n j : ℕ) → a + n ≡ j → range_with_len a (suc n) ≡ range_with_len a n ++ j ∷ []
range_more a zero j e = let same : a ≡ j = omega arith in ap (λ (k : ℕ). k ∷ []) same
range_more a (suc n) j e = ap (λ (xs : List ℕ). a ∷ xs) (range_more (a + 1) n j (omega arith))

range_up : (n : ℕ) → range_with_len 0 (n + 1) ≡ range_with_len 0 n ++ n ∷ []
range_up n = ap (λ (k : ℕ). range_with_len 0 k) (add-one n) ∙ range_more 0 n n (omega arith)

-- the items of one more number
pub items_more : {A : Type 0} (f : ℕ → List A) (n : ℕ) (old now new : List A)
    → now ≡ old ++ flat_map f (range_with_len 0 n) → new ≡ now ++ f n
    → new ≡ old ++ flat_map f (range_with_len 0 (n + 1))
items_more {A} f n old now new before written = cc (flat_map_more f old (range_with_len 0 n) n, range_up n)
