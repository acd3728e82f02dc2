-- A row as text.
use Rattle.std.specs.Prelude.{ℕ, ◌≡◌, List, ◌++◌}
use Rattle.hp_text.specs.State.{newline}

-- one more row was added to a text: the request, the answer and the memory, up to the end of a
-- line. The layout of the row, and the memory as text, are tested and not stated here
pub record IsRowIn (asked answer old new : List ℕ) : Type 0 where
  pub gap : List ℕ
  pub memory : List ℕ
  pub is : new ≡ old ++ asked ++ gap ++ answer ++ memory ++ newline
