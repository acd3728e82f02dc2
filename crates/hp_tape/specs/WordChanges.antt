-- The value in contracts of the change of a word.
use Rattle.std.specs.Prelude.{ℕ}

-- a word before and after a change
pub record WordChangeValue : Type 0 where
  pub was : ℕ
  pub now : ℕ
