-- Texts one after another.
use Rattle.std.proofs.Common.{◌≡◌, ℕ, List, ◌++◌, ap, ◌∙◌, append_assoc}

-- one text in other words, and one more
pub said : (old new x y : List ℕ) → x ≡ y → new ≡ old ++ x → new ≡ old ++ y
said old new x y same written = written ∙ ap (λ (t : List ℕ). old ++ t) same

pub more : (old one two x y : List ℕ) → one ≡ old ++ x → two ≡ one ++ y → two ≡ old ++ (x ++ y)
more old one two x y first second = second ∙ (ap (λ (t : List ℕ). t ++ y) first ∙ append_assoc old x y)

pub three : (a b c : List ℕ) → a ++ (b ++ c) ≡ (a ++ b) ++ c
three a b c = simp append_assoc

pub five : (a b c d e : List ℕ) → a ++ (b ++ (c ++ (d ++ e))) ≡ (((a ++ b) ++ c) ++ d) ++ e
five a b c d e = simp append_assoc

-- pieces that were written one after another
pub chained : (a p b q c r d old u v w x y z new : List ℕ) → u ≡ old ++ a → v ≡ u ++ p → w ≡ v ++ b
    → x ≡ w ++ q → y ≡ x ++ c → z ≡ y ++ r → new ≡ z ++ d
    → new ≡ old ++ ((((((a ++ p) ++ b) ++ q) ++ c) ++ r) ++ d)
chained a p b q c r d old u v w x y z new one two three four five six seven =
    rw (seven, six, five, four, three, two, one) (simp append_assoc)
