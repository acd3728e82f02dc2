-- Texts as in JSON strings, between the quotation marks (RFC 8259, section 7).
use Rattle.std.specs.Prelude.{ℕ, ◌-◌, ◌^◌, ◌==◌, ◌&&◌, ◌||◌, nat_le, nat_lt, Bool, true, false, List, [], ◌++◌, codes, encode_utf8, length, take, if◌then◌else◌}
use Rattle.std.specs.Fmt.{digits, format_spec, padded_integral}
use Rattle.std.specs.List.{flat_map}
use Rattle.std.specs.Str.{chars}
use Rattle.hp_text.specs.declared.escapes.Brackets.{Brackets}
use Rattle.hp_text.specs.declared.escapes.Brackets.TheVariants.{Kept, Escaped}

abbrev pub are_escaped : Brackets → Bool
are_escaped Kept = false
are_escaped Escaped = true

abbrev pub is_bracket : ℕ → Bool
is_bracket c = (c == 91) || (c == 93)

-- a character is between two, both included
abbrev pub is_between : (first last c : ℕ) → Bool
is_between first last c = nat_le first c && nat_le c last

-- a control character, white space other than the space, or a character without a glyph
abbrev pub is_hidden : ℕ → Bool
is_hidden c =
    nat_lt c 32 || (is_between 127 160 c || (c == 173 || (c == 1564 || (c == 5760 || (c == 6158
    || (is_between 8192 8207 c || (is_between 8232 8239 c || (is_between 8287 8303 c || (c == 12288
    || (c == 65279 || is_between 65529 65531 c))))))))))

-- a character as a `\u` escape: four digits or more in hexadecimal
abbrev pub numbered : ℕ → List ℕ
numbered c = codes "\\u" ++ padded_integral (format_spec 32 0 4 4 (2 ^ 64 - 1)) false [] (digits 16 false c)

-- a character as in a JSON string
abbrev pub escaped : Brackets → ℕ → List ℕ
escaped brackets c =
    if c == 34 then codes "\\\""
    else (if c == 92 then codes "\\\\"
    else (if c == 10 then codes "\\n"
    else (if c == 13 then codes "\\r"
    else (if c == 9 then codes "\\t"
    else (if is_hidden c || (are_escaped brackets && is_bracket c) then numbered c else encode_utf8 c)))))

-- a text as in a JSON string, character by character
unfoldable pub escaped_text : Brackets → List ℕ → List ℕ
escaped_text brackets text = flat_map (escaped brackets) (chars text)

-- at most `most` characters of a text as in a JSON string, and two dots if there are more
unfoldable pub escaped_start : Brackets → (most : ℕ) → List ℕ → List ℕ
escaped_start brackets most text =
    flat_map (escaped brackets) (take most (chars text))
    ++ (if nat_lt most (length (chars text)) then codes ".." else [])
