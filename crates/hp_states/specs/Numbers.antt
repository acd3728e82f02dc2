-- A number as bytes.
use Rattle.std.specs.Prelude.{ℕ, zero, suc, ◌/◌, ◌%◌, ◌^◌, List, [], ◌∷◌, Option, None, Some, ◌+◌, nat_lt, if◌then◌else◌}

-- the `more` lowest bytes of a number, the lowest first, and then the rest of the number
abbrev pub low_bytes : (more : ℕ) → ℕ → List ℕ
low_bytes zero n = n ∷ []
low_bytes (suc more) n = n % 256 ∷ low_bytes more (n / 256)

-- a number of more than one byte: a mark for its width, then 2, 4 or 8 bytes, the lowest first
abbrev pub wide_code : ℕ → List ℕ
wide_code n =
    if nat_lt n (2 ^ 16) then 253 ∷ low_bytes 1 n
    else (if nat_lt n (2 ^ 32) then 254 ∷ low_bytes 3 n else 255 ∷ low_bytes 7 n)

-- a number: one byte if it is below 253 (Bitcoin, protocol documentation: CompactSize)
unfoldable pub number_code : ℕ → List ℕ
number_code n = if nat_lt n 253 then n ∷ [] else wide_code n

-- an optional number: 0 for none, and the number plus one otherwise
abbrev pub option_code : Option ℕ → List ℕ
option_code None = number_code 0
option_code (Some n) = number_code (n + 1)
