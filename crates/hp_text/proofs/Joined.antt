-- Texts that are written one after another.
use Rattle.std.proofs.Common.{◌≡◌, ℕ, List, ◌++◌, ap, ◌∙◌, append_assoc}

pub three : (x y z old one two new : List ℕ) → one ≡ old ++ x → two ≡ one ++ y → new ≡ two ++ z
    → new ≡ old ++ ((x ++ y) ++ z)
three x y z old one two new first second third =
    third ∙ (ap (λ (l : List ℕ). l ++ z) (second ∙ (ap (λ (l : List ℕ). l ++ y) first ∙ append_assoc old x y))
    ∙ append_assoc old (x ++ y) z)
