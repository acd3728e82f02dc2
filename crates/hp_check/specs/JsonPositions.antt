-- White space of JSON (RFC 8259, section 2), and the lines of a text with more than white space.
use Rattle.std.specs.Prelude.{◌≡◌, ℕ, ◌+◌, ◌==◌, ◌||◌, Bool, true, false, List, count_by, slice_get, take, Some, if◌then◌else◌}
use Rattle.std.specs.List.{All}

-- the byte is white space
abbrev pub is_space : ℕ → Bool
is_space b = b == 32 || (b == 9 || (b == 10 || b == 13))

-- the byte is a newline
abbrev pub is_newline : ℕ → Bool
is_newline b = b == 10

-- the line of the next byte, given the line of this byte; lines are counted from 1
abbrev pub line_after : (line byte : ℕ) → ℕ
line_after line byte = if is_newline byte then line + 1 else line

-- a line of the text that has a byte other than white space; lines are counted from 1
pub record IsSignLine (input : List ℕ) (line : ℕ) : Type 0 where
  pub at : ℕ
  pub byte : ℕ
  pub here : slice_get input at ≡ Some byte
  pub sign : is_space byte ≡ false
  pub counted : line ≡ 1 + count_by is_newline (take at input)

-- each of these lines has a byte other than white space
abbrev pub AreSignLines : (input lines : List ℕ) → Type 0
AreSignLines input lines = All (IsSignLine input) lines

-- for each text: if each line in `old` has a byte other than white space, and `line` has one or
-- `is_noted` is false, then each line in `new` has one
abbrev pub KeepSignLines : (is_noted : Bool) → (line : ℕ) → (old new : List ℕ) → Type 0
KeepSignLines is_noted line old new =
    (input : List ℕ) → AreSignLines input old → (is_noted ≡ true → IsSignLine input line)
    → AreSignLines input new
