-- Numbers as words: in decimal, without a sign and without leading zeros.
use Rattle.std.specs.Prelude.{◌≡◌, ◌↔◌, ℕ, ◌^◌, ◌<◌, ◌≤◌, ◌&&◌, ◌||◌, ◌==◌, List, length, slice_index, Bool, not, Option, Some, None, nat_lt, if◌then◌else◌}
use Rattle.std.specs.Fmt.{decimal}
use Rattle.std.specs.Str.{all_ascii_digits}
use Rattle.std.specs.Str.Parse.{digits_value}

-- the word begins with neither `+` nor `0`, or is `0` alone
abbrev pub is_bare : List ℕ → Bool
is_bare word = not (slice_index word 0 == 43) && (nat_lt (length word) 2 || not (slice_index word 0 == 48))

-- only digits, and at least one
abbrev pub is_digits : List ℕ → Bool
is_digits word = all_ascii_digits word && nat_lt 0 (length word)

-- the number that the digits are, with or without leading zeros, if it is below 2 ^ bits. None also
-- if the word is empty or has another byte
unfoldable pub digits_in : ℕ → List ℕ → Option ℕ
digits_in bits word =
    if is_digits word && nat_lt (digits_value 10 word) (2 ^ bits) then Some (digits_value 10 word) else None

-- the number that the word is: digits without a leading zero, below 2 ^ bits
unfoldable pub number_of : ℕ → List ℕ → Option ℕ
number_of bits word = if is_bare word then digits_in bits word else None

-- if `bits` is at most 64, a word is read as the number n if and only if n is below 2 ^ bits and
-- the word is n in decimal digits
abbrev pub NumbersAreSpelled : Type 0
NumbersAreSpelled =
    (bits : ℕ) (word : List ℕ) (n : ℕ) → bits ≤ 64
    → (number_of bits word ≡ Some n) ↔ ((word ≡ decimal n) × (n < 2 ^ bits))
