-- The words of paths and of written texts (Linux guide, Memory Hot(Un)Plug).
use Rattle.std.specs.Prelude.{ℕ, ◌+◌, ◌*◌, ◌-◌, ◌&&◌, ◌==◌, List, [], ◌∷◌, codes, length, take, drop, slice_index, Option, Some, None, nat_eq, nat_le, nat_lt, if◌then◌else◌}
use Rattle.std.specs.Char.{digit_value}
use Rattle.std.specs.List.{starts_with}
use Rattle.std.specs.Option.{option_and_then}
use Rattle.hp_units.specs.NumberWords.{number_of}

-- the memory block whose directory has this name: `memory` and its number (Linux guide: memoryXXX)
unfoldable pub block_named : List ℕ → Option ℕ
block_named name = if starts_with nat_eq name (codes "memory") then number_of 32 (drop 6 name) else None

-- the value of a hexadecimal digit of either case
abbrev pub hex_digit : ℕ → Option ℕ
hex_digit byte = if nat_lt (digit_value byte) 16 then Some (digit_value byte) else None

-- the number whose hexadecimal digits are those of `number` and then these bytes; None if one is no
-- digit
abbrev pub hex_after : ℕ → List ℕ → Option ℕ
hex_after number [] = Some number
hex_after number (byte ∷ bytes) =
    option_and_then (λ digit. hex_after (number * 16 + digit) bytes) (hex_digit byte)

-- the number that 1 to 16 hexadecimal digits write
unfoldable pub hex_number : List ℕ → Option ℕ
hex_number digits = if nat_lt 0 (length digits) && nat_le (length digits) 16 then hex_after 0 digits else None

-- the byte address in a text: `0x` and 1 to 16 hexadecimal digits (Linux guide: probe)
unfoldable pub address_of : List ℕ → Option ℕ
address_of text = if starts_with nat_eq text (codes "0x") then hex_number (drop 2 text) else None

-- a written text without its final newline, if it has one
abbrev pub without_newline : List ℕ → List ℕ
without_newline bytes =
    if nat_lt 0 (length bytes)
    && (slice_index bytes (length bytes - 1) == 10) then take (length bytes - 1) bytes else bytes
