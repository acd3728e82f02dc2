-- What is known of all the bytes that a reader gave.
use Rattle.std.proofs.Common.{ℕ, List, ◌++◌, Option, Some, None, sym, ap, subst, ◌∙◌, append-nil}
use Rattle.std.specs.Prelude.{IfSome}
use Rattle.std.specs.Io.KnownBytes.{Consumes, IsAtEnd}

-- a reader at its end gave all that it had
pub given : (a b : Option (List ℕ)) (bytes : List ℕ) → Consumes a b bytes → IsAtEnd b → (P : List ℕ → Type 0)
    → P bytes → IfSome a P
given None b bytes p end P h = tt
given (Some x) None bytes p end P h = absurd p
given (Some x) (Some y) bytes p end P h =
    subst P (sym (p ∙ ap (λ (l : List ℕ). bytes ++ l) end ∙ append-nil bytes)) h
