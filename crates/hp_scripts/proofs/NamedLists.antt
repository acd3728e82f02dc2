-- Lists of words: the last two, and words with spaces between.
use Rattle.std.proofs.Common.{◌≡◌, ℕ, ◌<◌, List, [], ◌∷◌, ◌++◌, Bor, length, get_or, map, Some, None, refl, arith, suc, zero}
use Rattle.std.specs.List.{join_by}
use Rattle.std.proofs.lemmas.List.Folds.{flat_map-map}
use Rattle.hp_scripts.specs.NamedWords.{joined, last_two}

-- ---- the last two words

-- by their places
pub last_two_there : (ws : List (Bor (List ℕ))) (n : ℕ) (d : Bor (List ℕ)) → length ws ≡ suc (suc n)
    → last_two (map (λ w. w.now) ws) ≡ Some ((get_or ws n d).now, (get_or ws (suc n) d).now)
unfolding last_two
last_two_there [] n d e = absurd (omega arith)
last_two_there (a ∷ []) n d e = absurd (omega arith)
last_two_there (a ∷ b ∷ []) zero d e = refl
last_two_there (a ∷ b ∷ []) (suc n) d e = absurd (omega arith)
last_two_there (a ∷ b ∷ c ∷ ws) zero d e = absurd (omega arith)
last_two_there (a ∷ b ∷ c ∷ ws) (suc n) d e = last_two_there (b ∷ c ∷ ws) n d (omega arith)

pub last_two_lacks : (ws : List (Bor (List ℕ))) → length ws < 2 → last_two (map (λ w. w.now) ws) ≡ None
unfolding last_two
last_two_lacks [] lt = refl
last_two_lacks (a ∷ []) lt = refl
last_two_lacks (a ∷ b ∷ ws) lt = absurd (omega arith)

-- ---- words with one space between them

pub joined_seen : (ws : List (Bor (List ℕ)))
    → join_by (λ (w : Bor (List ℕ)). w.now) (32 ∷ []) ws ≡ joined (map (λ w. w.now) ws)
joined_seen [] = refl
joined_seen (w ∷ ws) =
    rw (← flat_map-map (λ (y : List ℕ). (32 ∷ []) ++ y) (λ (w : Bor (List ℕ)). w.now) ws)
