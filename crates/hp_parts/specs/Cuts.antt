-- The lines of a text, and their numbers.
use Rattle.std.specs.Prelude.{◌≡◌, ℕ, ◌+◌, ◌==◌, List, ◌∷◌, ◌++◌, count_by, drop, length, take, Some, None}
use Rattle.memchr.specs.Find.{IsFirstByte, is_byte}

-- `text` is the line at index `place`: the bytes up to the next newline (memchr)
abbrev pub IsLineAt : (input : List ℕ) → (place : ℕ) → (text : List ℕ) → Type 0
IsLineAt input place text =
    (drop place input ≡ text ++ 10 ∷ drop (place + length text + 1) input)
    × IsFirstByte (is_byte 10) (drop place input) (Some (length text))

-- there is no newline from index `place` on (memchr)
abbrev pub HasNoNewline : (input : List ℕ) → (place : ℕ) → Type 0
HasNoNewline input place = IsFirstByte (is_byte 10) (drop place input) None

-- the number of the line at index `place`, from 1: one more than the number of newlines before it
abbrev pub line_number : (input : List ℕ) → (place : ℕ) → ℕ
line_number input place = count_by (λ b. b == 10) (take place input) + 1
