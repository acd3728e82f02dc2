-- The lower of two outcomes is that of both searches.
use Rattle.std.proofs.Common.{ℕ, Option, arith}
use Rattle.std.specs.Prelude.{◌⊎◌}
use Rattle.std.proofs.lemmas.Bool.{leb-true, leb-false}
use Rattle.hp_shared.specs.Marks.{lower}
use Rattle.hp_shared.specs.Comparing.{IsOutcome}

pub joined : (G H Both : Type 0) (P Q R : ℕ → Type 0) (o q : Option ℕ) → IsOutcome G P o → IsOutcome H Q q
    → (G → (n : ℕ) → P n → ⊥) → (H → (n : ℕ) → Q n → ⊥) → (G → H → Both) → ((n : ℕ) → P n → R n)
    → ((n : ℕ) → Q n → R n) → ((n : ℕ) → R n → P n ⊎ Q n)
    → IsOutcome Both R (lower o q)
joined G H Both P Q R o q a b rules_out excludes good left right split = grind (arith, leb-true, leb-false)

-- an outcome of one search is that of another that finds the same
pub mapped : (G Both : Type 0) (P R : ℕ → Type 0) (o : Option ℕ) → IsOutcome G P o → (G → Both)
    → ((n : ℕ) → P n → R n) → ((n : ℕ) → R n → P n) → IsOutcome Both R o
mapped G Both P R o a good there back = grind arith
