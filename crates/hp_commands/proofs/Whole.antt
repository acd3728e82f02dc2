-- Texts no line of which says that a call was out of memory.
use Rattle.std.proofs.Common.{◌≡◌, ℕ, List, ◌∷◌, ◌++◌, codes, sym, ap, ◌∙◌, append_assoc}
use Rattle.hp_commands.specs.Serial.{IsWhole}

-- what is after the front of a whole text is whole
pub whole_back : (a b : List ℕ) → IsWhole (a ++ b) → IsWhole b
unfolding IsWhole
whole_back a b whole front rest e =
    whole (a ++ front) rest
    (ap (λ (l : List ℕ). a ++ l) e ∙ sym (append_assoc a front (codes "OutOfMemory" ++ 10 ∷ rest)))

-- a line that ends so makes a text that isn't whole
pub not_whole : (text front rest : List ℕ) → text ≡ front ++ (codes "OutOfMemory" ++ 10 ∷ rest) → IsWhole text
    → ⊥
unfolding IsWhole
not_whole text front rest e whole = whole front rest e
