-- What one write after another does to known bytes.
use Rattle.std.proofs.Common.{◌≡◌, ℕ, ◌+◌, ◌-◌, ◌≤◌, List, ◌++◌, length, take, drop, Option, Some, None, sym, ap, ◌∙◌, append_assoc, arith}
use Rattle.std.proofs.Math.Seq.{take-add}
use Rattle.std.proofs.lemmas.List.{take_all, length-drop}
use Rattle.std.specs.Io.KnownBytes.{Appends}

-- what is left from a place on
pub to_end : (i : ℕ) (xs : List ℕ) → take (length xs - i) (drop i xs) ≡ drop i xs
to_end i xs = take_all _ _ (omega (arith, length-drop i xs))

-- the next n bytes
next : (i n : ℕ) (bytes : List ℕ)
    → take i bytes ++ take n (take (length bytes - i) (drop i bytes)) ≡ take (i + n) bytes
next i n bytes = ap (λ (l : List ℕ). take i bytes ++ take n l) (to_end i bytes) ∙ sym (take-add i n bytes)

-- a write after others
pub Appends-more : (a b c : Option (List ℕ)) (bytes : List ℕ) (i n : ℕ) → Appends a b (take i bytes)
    → Appends b c (take n (take (length bytes - i) (drop i bytes))) → Appends a c (take (i + n) bytes)
Appends-more None b c bytes i n p q = tt
Appends-more (Some x) None c bytes i n p q = absurd p
Appends-more (Some x) (Some y) None bytes i n p q = absurd q
Appends-more (Some x) (Some y) (Some z) bytes i n p q =
    q ∙ ap (λ (l : List ℕ). l ++ take n (take (length bytes - i) (drop i bytes))) p
    ∙ append_assoc x (take i bytes) _ ∙ ap (λ (l : List ℕ). x ++ l) (next i n bytes)

-- a write stays within the bytes
pub within_end : (i n : ℕ) (bytes : List ℕ) → i ≤ length bytes
    → n ≤ length (take (length bytes - i) (drop i bytes)) → i + n ≤ length bytes
within_end i n bytes p q = omega (arith, ap length (to_end i bytes), length-drop i bytes)
