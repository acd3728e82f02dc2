-- Two equal lists, cut after the same number of items.
use Rattle.std.specs.Prelude.{◌≡◌, ℕ, List, [], ◌∷◌, ◌++◌, length}
use Rattle.std.proofs.Common.{refl, ap, arith, ◌∙◌}

-- the first parts of the lists are equal, and so are the second parts
pub same_starts : (a b c d : List ℕ) → length a ≡ length c → a ++ b ≡ c ++ d → (a ≡ c) × (b ≡ d)
same_starts [] b [] d long is = (refl, is)
same_starts [] b (y ∷ c) d long is = absurd (omega (arith, long))
same_starts (x ∷ a) b [] d long is = absurd (omega (arith, long))
same_starts (x ∷ a) b (y ∷ c) d long is =
    let first : x ≡ y = cc in
    let others : a ++ b ≡ c ++ d = cc in
    let rest = same_starts a b c d (omega (arith, long)) others in
    (ap (λ (n : ℕ). n ∷ a) first ∙ ap (λ (xs : List ℕ). y ∷ xs) rest.0, rest.1)
