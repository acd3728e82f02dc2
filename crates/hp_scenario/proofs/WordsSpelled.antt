-- Words that a line is made of: none has a space, so they are what a split at spaces gives.
use Rattle.std.proofs.Common.{◌≡◌, ℕ, ◌^◌, ◌<◌, Bool, true, false, not, ◌&&◌, eqb, leb, List, [], ◌∷◌, ◌++◌, refl, ap, arith}
use Rattle.std.specs.Fmt.{decimal}
use Rattle.std.specs.List.{join_with_byte, slice_split, onto_first, list_all}
use Rattle.std.specs.Str.{all_ascii_digits}
use Rattle.std.proofs.lemmas.Bool.{and_parts, ne_eqb, leb-true, eqb-true, and_from, not-true}
use Rattle.std.proofs.lemmas.Fmt.{digits_decimal}
use Rattle.hp_scenario.specs.Words.{is_name, is_name_byte}
use Rattle.hp_scenario.specs.Spelling.{is_spaceless}
use Rattle.hp_units.proofs.NumbersSpelled.{own}

-- a byte that is not a space
abbrev pub is_no_space : ℕ → Bool
is_no_space b = not (eqb b 32)

above_space : (b : ℕ) → 32 < b → is_no_space b ≡ true
above_space b lt = let no : eqb b 32 ≡ false = ne_eqb _ _ (λ e. omega arith) in ap not no

in_range : (low high b : ℕ) → 32 < low → (leb low b && leb b high) ≡ true → is_no_space b ≡ true
in_range low high b lt h = grind (arith, leb-true, and_parts, above_space)

pub digits_spaceless : (ds : List ℕ) → all_ascii_digits ds ≡ true → is_spaceless ds ≡ true
digits_spaceless [] h = refl
digits_spaceless (d ∷ ds) h =
    let p = and_parts (leb 48 d && leb d 57) (all_ascii_digits ds) h in
    and_from (is_no_space d) (is_spaceless ds) (in_range 48 57 d (omega arith) p.0) (digits_spaceless ds p.1)

pub decimal_spaceless : (n : ℕ) → n < 2 ^ 64 → is_spaceless (decimal n) ≡ true
decimal_spaceless n small = digits_spaceless (decimal n) (digits_decimal own n small)

name_byte : (b : ℕ) → is_name_byte b ≡ true → is_no_space b ≡ true
name_byte b h = grind (arith, in_range, eqb-true, above_space)

name_bytes : (bs : List ℕ) → list_all is_name_byte bs ≡ true → is_spaceless bs ≡ true
name_bytes [] h = refl
name_bytes (b ∷ bs) h =
    let p = and_parts (is_name_byte b) (list_all is_name_byte bs) h in
    and_from (is_no_space b) (is_spaceless bs) (name_byte b p.0) (name_bytes bs p.1)

pub name_spaceless : (word : List ℕ) → is_name word ≡ true → is_spaceless word ≡ true
name_spaceless word h = grind (arith, and_parts, and_from, in_range, name_bytes)

-- ---- a split at spaces

abbrev pub is_space : ℕ → Bool
is_space b = eqb b 32

split_word : (word rest : List ℕ) → is_spaceless word ≡ true
    → slice_split is_space (word ++ 32 ∷ rest) ≡ word ∷ slice_split is_space rest
split_word [] rest h = refl
split_word (b ∷ bs) rest h =
    let p = and_parts (is_no_space b) (is_spaceless bs) h in
    rw (not-true _ p.0, split_word bs rest p.1) refl

split_last : (word : List ℕ) → is_spaceless word ≡ true → slice_split is_space word ≡ word ∷ []
split_last [] h = refl
split_last (b ∷ bs) h =
    let p = and_parts (is_no_space b) (is_spaceless bs) h in
    rw (not-true _ p.0, split_last bs p.1) refl

-- words with no space in any
abbrev pub AreSpaceless : List (List ℕ) → Type 0
AreSpaceless [] = Unit {0}
AreSpaceless (word ∷ words) = (is_spaceless word ≡ true) × AreSpaceless words

pub split_joined : (word : List ℕ) (words : List (List ℕ)) → is_spaceless word ≡ true → AreSpaceless words
    → slice_split is_space (join_with_byte 32 (word ∷ words)) ≡ word ∷ words
split_joined word [] h hs = split_last word h
split_joined word (next ∷ words) h hs = grind (arith, split_word, split_joined next words hs.0 hs.1)

-- the words of a split have no space
onto_spaceless : (b : ℕ) (words : List (List ℕ)) → is_no_space b ≡ true → AreSpaceless words
    → AreSpaceless (onto_first b words)
onto_spaceless b words h hs = grind (arith, and_from)

pub split_spaceless : (bs : List ℕ) → AreSpaceless (slice_split is_space bs)
split_spaceless [] = (refl, tt)
split_spaceless (b ∷ bs) = grind (arith, onto_spaceless, split_spaceless bs)
