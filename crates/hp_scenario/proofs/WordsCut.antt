-- Words that are cut off a text one by one.
use Rattle.std.proofs.Common.{◌≡◌, ℕ, ◌+◌, ◌<◌, Bool, false, cond, Some, None, List, [], ◌∷◌, ◌++◌, length, get_or, take, drop, map, Bor, arith, append_assoc}
use Rattle.std.specs.List.{position, position_or_len}
use Rattle.std.specs.Str.{IsCharBoundary, IsUtf8}
use Rattle.std.proofs.lemmas.Bool.{ltb-false}
use Rattle.std.proofs.lemmas.List.{map-append}
use Rattle.std.proofs.lemmas.List.Quantifiers.{position-Some}
use Rattle.std.proofs.lemmas.List.Sums.{fails_before_first}
use Rattle.std.proofs.lemmas.Str.{IsCharBoundary-after_ascii, IsCharBoundary-before_ascii}
use Rattle.std.proofs.lemmas.List.Splits.{slice_split_first, slice_split_none}
use Rattle.hp_scenario.specs.Words.{words_of}
use Rattle.hp_scenario.proofs.WordsSpelled.{is_space}

-- ---- where a word ends

-- where the first space stands
record IsSpace (text : List ℕ) (end : ℕ) : Type 0 where
  first : end ≡ position_or_len is_space text
  within : end < length text
  there : get_or text end 0 ≡ 32

space_found : (text : List ℕ) (end : ℕ) → position is_space text ≡ Some end → IsSpace text end
space_found text end h = grind (arith, position-Some is_space text end 0 h)

pub before_space : (text : List ℕ) (end : ℕ) → position is_space text ≡ Some end → IsCharBoundary text end
before_space text end h = grind (arith, space_found, IsCharBoundary-before_ascii)

pub after_space : (text : List ℕ) (end : ℕ) → position is_space text ≡ Some end → IsUtf8 text
    → IsCharBoundary text (end + 1)
after_space text end h utf8 = grind (arith, space_found, IsCharBoundary-after_ascii)

pub first_word : (text : List ℕ) (end : ℕ) → position is_space text ≡ Some end
    → words_of text ≡ take end text ∷ words_of (drop (end + 1) text)
first_word text end h = grind (arith, space_found, slice_split_first, is_space)

not_found : (b : Bool) (k : ℕ) → cond b (Some k) None ≡ None → b ≡ false
not_found b k e = grind arith

pub only_word : (text : List ℕ) → position is_space text ≡ None → words_of text ≡ text ∷ []
only_word text h = grind (arith, is_space, ltb-false, not_found, slice_split_none, fails_before_first)

-- ---- word by word

abbrev bytes_of : List (Bor (List ℕ)) → List (List ℕ)
bytes_of words = map (λ w. w.now) words

-- one word more
pub one_more_word : (before after : List (Bor (List ℕ))) (word : Bor (List ℕ))
    (left rest total : List (List ℕ))
    → after ≡ before ++ word ∷ [] → left ≡ word.now ∷ rest → bytes_of before ++ left ≡ total
    → bytes_of after ++ rest ≡ total
one_more_word before after word left rest total grown first so_far = grind (arith, map-append, append_assoc)

-- the last word
pub last_word : (before after : List (Bor (List ℕ))) (word : Bor (List ℕ)) (left total : List (List ℕ))
    → after ≡ before ++ word ∷ [] → left ≡ word.now ∷ [] → bytes_of before ++ left ≡ total
    → bytes_of after ≡ total
last_word before after word left total grown last so_far = grind (arith, map-append)

-- what a space says, and what it says that there is none
pub ruleset cut_at_spaces = (before_space, after_space, first_word, only_word)
