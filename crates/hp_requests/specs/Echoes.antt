-- The parts of an `echo`: the path of a control file, and the word that is written to it.
use Rattle.std.specs.Prelude.{ℕ, List}

pub record EchoValue : Type 0 where
  pub path : List ℕ
  pub word : List ℕ
