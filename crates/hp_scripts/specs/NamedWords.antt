-- The names among the words of a line.
use Rattle.std.specs.Prelude.{ℕ, ◌&&◌, ◌-◌, ◌==◌, List, [], ◌∷◌, codes, length, take, Option, Some, None, if◌then◌else◌, option_and_then}
use Rattle.std.specs.List.{join_by}
use Rattle.std.specs.Str.{bytes_eq}
use Rattle.hp_scenario.specs.Words.{is_name}

-- the last two of the words; None if there are fewer
unfoldable pub last_two : List (List ℕ) → Option (List ℕ × List ℕ)
last_two [] = None
last_two (word ∷ []) = None
last_two (first ∷ second ∷ []) = Some (first, second)
last_two (word ∷ second ∷ third ∷ more) = last_two (second ∷ third ∷ more)

-- the name in two words, if they are `as` and a name
abbrev pub name_of_two : List ℕ × List ℕ → Option (List ℕ)
name_of_two two = if bytes_eq two.0 (codes "as") && is_name two.1 then Some two.1 else None

-- the name that the last two words give, if these are `as` and a name
abbrev pub name_at_end : List (List ℕ) → Option (List ℕ)
name_at_end words = option_and_then name_of_two (last_two words)

-- all words but the last two
abbrev pub before_name : List (List ℕ) → List (List ℕ)
before_name words = take (length words - 2) words

-- the name after a `$`; None if the word does not begin with one
abbrev pub after_dollar : List ℕ → Option (List ℕ)
after_dollar [] = None
after_dollar (first ∷ name) = if first == 36 then Some name else None

-- words with one space between them
abbrev pub joined : List (List ℕ) → List ℕ
joined words = join_by (λ w. w) (32 ∷ []) words
