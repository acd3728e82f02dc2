-- Lines with their newlines, one after another.
use Rattle.std.proofs.Common.{arith, ◌≡◌, ℕ, List, [], ◌∷◌, ◌++◌, refl, append_assoc}
use Rattle.hp_streams.specs.Ends.{with_last}
use Rattle.hp_streams.specs.Talks.{ended, newline}

pub ended_joined : (xs ys : List (List ℕ)) → ended (xs ++ ys) ≡ ended xs ++ ended ys
ended_joined [] ys = refl
ended_joined (x ∷ xs) ys = rw (ended_joined xs ys, ← append_assoc x (newline ∷ ended xs) (ended ys))

-- lines before these bytes
pub ended_after : (front lines : List (List ℕ)) (bytes tail : List ℕ) → bytes ≡ ended lines ++ tail
    → ended front ++ bytes ≡ ended (front ++ lines) ++ tail
ended_after front lines bytes tail is = grind (arith, append_assoc, ended_joined)

-- bytes after lines
pub longer : (lines : List (List ℕ)) (bytes tail more : List ℕ) → bytes ≡ ended lines ++ tail
    → bytes ++ more ≡ ended lines ++ (tail ++ more)
longer lines bytes tail more is = rw (is, append_assoc (ended lines) tail more)

-- a line that is cut
pub cut_at : (lines : List (List ℕ)) (last front after rest : List ℕ) → rest ≡ front ++ newline ∷ after
    → ended lines ++ (last ++ rest) ≡ ended lines ++ ((last ++ front) ++ newline ∷ after)
cut_at lines last front after rest is = rw (is, ← append_assoc last front (newline ∷ after))

pub one_more : (lines : List (List ℕ)) (line after : List ℕ)
    → ended lines ++ (line ++ newline ∷ after) ≡ ended (lines ++ line ∷ []) ++ after
one_more lines line after = grind (arith, append_assoc, ended_joined)

pub with_last_after : (front xs : List (List ℕ)) (last : List ℕ)
    → front ++ with_last xs last ≡ with_last (front ++ xs) last
with_last_after front xs last = grind (arith, append_assoc)
