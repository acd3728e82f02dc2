-- The words of a line, and its names.
use Rattle.std.specs.Prelude.{◌≡◌, ℕ, ◌&&◌, ◌||◌, ◌==◌, List, [], ◌∷◌, length, Bool, true, false, nat_lt}
use Rattle.std.specs.List.{list_all, slice_split}
use Rattle.std.specs.Int.{is_in_range}
use Rattle.std.specs.Str.Parse.{digits_value}
use Rattle.hp_units.specs.NumberWords.{is_bare, is_digits}

-- the words between single spaces
abbrev pub words_of : List ℕ → List (List ℕ)
words_of text = slice_split (λ b. b == 32) text

-- digits without a leading zero, and the number that they write
abbrev pub IsPlainNumber : List ℕ → ℕ → Type 0
IsPlainNumber word n = (is_bare word ≡ true) × (is_digits word ≡ true) × (digits_value 10 word ≡ n)

-- a letter from `a` to `z`, a digit or `_`
abbrev pub is_name_byte : ℕ → Bool
is_name_byte b = is_in_range 97 122 b || (is_in_range 48 57 b || (b == 95))

-- a letter from `a` to `z`, and at most 31 more bytes of a name
abbrev pub is_name : List ℕ → Bool
is_name [] = false
is_name (b ∷ bs) = is_in_range 97 122 b && (nat_lt (length bs) 32 && list_all is_name_byte bs)
