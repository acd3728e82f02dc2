-- Sets of frames as bits of words, and the lowest number that passes a test.
use Rattle.std.specs.Prelude.{◌≡◌, ℕ, ◌/◌, ◌%◌, ◌<◌, ◌≤◌, Bool, true, false, List, Option, Some, None, ◌==◌, slice_index}
use Rattle.std.specs.Int.{bit_at}

-- the frame is in the set: 64 frames per word, lowest bit first
abbrev pub has : List ℕ → ℕ → Bool
has words frame = bit_at (slice_index words (frame / 64)) (frame % 64) == 1

-- a bit as a number
abbrev pub bit_of : Bool → ℕ
bit_of true = 1
bit_of false = 0

-- `found` is the lowest number that passes the test, with first <= found < past
pub record IsLowest (p : ℕ → Bool) (first past found : ℕ) : Type 0 where
  pub low : first ≤ found
  pub high : found < past
  pub passes : p found ≡ true
  pub below : (n : ℕ) → first ≤ n → n < found → p n ≡ false

-- the option is the lowest number that passes the test with first <= number < past, or None if no
-- such number passes
abbrev pub FindsLowest : (ℕ → Bool) → (first past : ℕ) → Option ℕ → Type 0
FindsLowest p first past None = (n : ℕ) → first ≤ n → n < past → p n ≡ false
FindsLowest p first past (Some found) = IsLowest p first past found
