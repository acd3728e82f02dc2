-- Plain texts token by token: what stands first, and what is left after it.
use Rattle.std.proofs.Common.{◌≡◌, ◌≢◌, ℕ, suc, ◌+◌, ◌-◌, ◌<◌, ◌≤◌, Bool, true, false, cond, ◌==◌, nat_lt, List, [], ◌∷◌, length, take, drop, get_or, Some, lt_of_not-le, ◌⊎◌, inl, inr, refl, sym, ap, ◌∙◌, arith}
use Rattle.std.specs.List.{prefix_len}
use Rattle.std.specs.Char.{is_ascii_digit}
use Rattle.std.specs.Str.{IsCharBoundary, IsUtf8}
use Rattle.std.proofs.lemmas.Bool.{eqb-true, ne_eqb, not-true, or_parts}
use Rattle.std.proofs.lemmas.Bool.Decides.{nat_tests}
use Rattle.std.proofs.lemmas.List.{get_or-drop, get_or_default, get_or_past, length-drop}
use Rattle.std.proofs.lemmas.Str.{IsCharBoundary-after_ascii}
use Rattle.json.specs.Token.{Token}
use Rattle.json.specs.Text.{content, plain, prepend}
use Rattle.json.specs.Word.{after_number, head, word}
use Rattle.json.specs.Lex.{Lexeme, token, operator, space, other, class, Mode, between, in_word, in_string, lex_byte, lex, begins_colon, may_begin, may_close, punctuate}
use Rattle.json.specs.Run.{is_plain}
use Rattle.hp_scenario.specs.PlainReader.{place_of, tokens_at}
use Rattle.hp_scenario.specs.declared.plain_reader.Place.{Place}
use Rattle.hp_scenario.specs.declared.plain_reader.Place.TheVariants.{Fresh, AfterValue, AfterComma}

-- ---- the byte in front

pub front : (t : List ℕ) (n : ℕ) → head t ≡ n → n ≢ 32 → t ≡ n ∷ drop 1 t
front t n e ne = grind arith

pub some_byte : (t : List ℕ) (n : ℕ) → head t ≡ n → n ≢ 32 → 0 < length t
some_byte [] n e ne = absurd (ne (sym e))
some_byte (x ∷ xs) n e ne = omega arith

pub none_left : (t : List ℕ) → (length t == 0) ≡ true → t ≡ []
none_left [] e = refl
none_left (x ∷ xs) e = absurd (let none : length (x ∷ xs) ≡ 0 = eqb-true _ _ e in omega arith)

pub second_is_boundary : (t : List ℕ) → IsUtf8 t → 0 < length t → head t < 128 → IsCharBoundary t 1
second_is_boundary [] utf8 some ascii = absurd (omega arith)
second_is_boundary (x ∷ xs) utf8 some ascii = IsCharBoundary-after_ascii (x ∷ xs) 0 utf8 (omega arith) ascii

-- ---- blanks and commas

pub blank_passed : (t : List ℕ) (x : ℕ) → x ≡ head t → (x ≡ 32) ⊎ (x ≡ 10)
    → lex between (drop 1 t) ≡ lex between t
unfolding lex
blank_passed t x e is = grind arith

pub comma_passed : (p : Place) (t : List ℕ) → may_begin (place_of p) ≡ false → head t ≡ 44
    → tokens_at AfterComma (drop 1 t) ≡ tokens_at p t
unfolding lex punctuate
comma_passed p t may e = grind (arith, front)

-- ---- signs

pub object_opens : (p : Place) (t rest : List ℕ) → head t ≡ 123 → may_begin (place_of p) ≡ true
    → rest ≡ drop 1 t → tokens_at p t ≡ Token.begin_object ∷ tokens_at Fresh rest
unfolding lex punctuate
object_opens p t rest e may is = grind (arith, front)

pub array_opens : (p : Place) (t rest : List ℕ) → head t ≡ 91 → may_begin (place_of p) ≡ true
    → rest ≡ drop 1 t → tokens_at p t ≡ Token.begin_array ∷ tokens_at Fresh rest
unfolding lex punctuate
array_opens p t rest e may is = grind (arith, front)

pub object_closes : (p : Place) (t rest : List ℕ) → head t ≡ 125 → may_close (place_of p) ≡ true
    → rest ≡ drop 1 t → tokens_at p t ≡ Token.end_object ∷ tokens_at AfterValue rest
unfolding lex punctuate
object_closes p t rest e may is = grind (arith, front)

pub array_closes : (p : Place) (t rest : List ℕ) → head t ≡ 93 → may_close (place_of p) ≡ true
    → rest ≡ drop 1 t → tokens_at p t ≡ Token.end_array ∷ tokens_at AfterValue rest
unfolding lex punctuate
array_closes p t rest e may is = grind (arith, front)

-- no token is left
pub over : (p : Place) (t rest : List ℕ) → may_close (place_of p) ≡ true → lex between rest ≡ lex between t
    → rest ≡ [] → tokens_at p t ≡ []
unfolding lex punctuate
over p t rest may same none = grind arith

-- ---- strings

-- a byte that is neither a quote nor a backslash leaves the lexer in its string
stays_inside : (is_sign is_blank : Bool) (x : ℕ) (xs : List ℕ) (k : Mode → List Lexeme)
    → lex_byte in_string (cond is_sign operator (cond is_blank space other)) x xs k ≡ k in_string
stays_inside is_sign is_blank x xs k = grind arith

plain_tests : (x : ℕ) → is_plain x ≡ true
    → ((x == 34) ≡ false) × ((x == 92) ≡ false) × (nat_lt x 32 ≡ false)
plain_tests x is = grind (arith, or_parts, not-true)

inside_byte : (x : ℕ) (xs : List ℕ) → is_plain x ≡ true → lex in_string (x ∷ xs) ≡ lex in_string xs
unfolding lex
inside_byte x xs is = grind (arith, plain_tests, stays_inside)

content_byte : (x : ℕ) (xs : List ℕ) → is_plain x ≡ true
    → content plain (x ∷ xs) ≡ prepend (x ∷ []) (content plain xs)
unfolding content
content_byte x xs is = grind (arith, plain_tests x is, prepend (x ∷ []) (content plain xs))

-- plain bytes up to a quote
inside_run : (xs : List ℕ) → get_or xs (prefix_len is_plain xs) 0 ≡ 34
    → lex in_string xs ≡ lex between (drop (prefix_len is_plain xs + 1) xs)
unfolding lex
inside_run [] e = absurd (let no : 0 ≡ 34 = e in omega arith)
inside_run (x ∷ xs) e = step (is_plain x) refl e (inside_run xs)
  where
    step : (p : Bool) → is_plain x ≡ p → get_or (x ∷ xs) (cond p (1 + prefix_len is_plain xs) 0) 0 ≡ 34
        → (get_or xs (prefix_len is_plain xs) 0 ≡ 34
        → lex in_string xs ≡ lex between (drop (prefix_len is_plain xs + 1) xs))
        → lex in_string (x ∷ xs) ≡ lex between (drop (cond p (1 + prefix_len is_plain xs) 0 + 1) (x ∷ xs))
    step false is e ih = ap (λ (n : ℕ). lex in_string (n ∷ xs)) e
    step true is e ih =
        let next : suc (prefix_len is_plain xs) ≡ 1 + prefix_len is_plain xs = omega arith in
        let past : suc (prefix_len is_plain xs + 1) ≡ 1 + prefix_len is_plain xs + 1 = omega arith in
        grind (arith, inside_byte)

content_run : (xs : List ℕ) → get_or xs (prefix_len is_plain xs) 0 ≡ 34
    → content plain xs ≡ Some (take (prefix_len is_plain xs) xs)
unfolding content
content_run [] e = absurd (let no : 0 ≡ 34 = e in omega arith)
content_run (x ∷ xs) e = step (is_plain x) refl e (content_run xs)
  where
    step : (p : Bool) → is_plain x ≡ p → get_or (x ∷ xs) (cond p (1 + prefix_len is_plain xs) 0) 0 ≡ 34
        → (get_or xs (prefix_len is_plain xs) 0 ≡ 34
        → content plain xs ≡ Some (take (prefix_len is_plain xs) xs))
        → content plain (x ∷ xs) ≡ Some (take (cond p (1 + prefix_len is_plain xs) 0) (x ∷ xs))
    step false is e ih = ap (λ (n : ℕ). content plain (n ∷ xs)) e
    step true is e ih =
        let next : suc (prefix_len is_plain xs) ≡ 1 + prefix_len is_plain xs = omega arith in
        grind (arith, content_byte)

-- a string with no escape stands first
pub string_cut : (t : List ℕ) (end : ℕ) → head t ≡ 34 → end ≡ 1 + prefix_len is_plain (drop 1 t)
    → get_or t end 0 ≡ 34
    → lex between t ≡ token (Token.string (take (end - 1) (drop 1 t))) ∷ lex between (drop (end + 1) t)
unfolding lex
string_cut [] end e is last = absurd (let no : 32 ≡ 34 = e in omega arith)
string_cut (x ∷ xs) end e is last =
    let n : ℕ = prefix_len is_plain xs in
    let next : suc n ≡ end = omega (arith, is) in
    let short : n ≡ end - 1 = omega (arith, is) in
    let past : suc (n + 1) ≡ end + 1 = omega (arith, is) in
    grind (arith, content_run, inside_run)

-- a key, where a colon comes next
pub as_key : (p : Place) (t s rest after : List ℕ) → lex between t ≡ token (Token.string s) ∷ lex between rest
    → head rest ≡ 58 → may_begin (place_of p) ≡ true → after ≡ drop 1 rest
    → tokens_at p t ≡ Token.key s ∷ tokens_at Fresh after
unfolding lex punctuate
as_key p t s rest after is colon may same = grind (arith, front)

-- a string, where another sign comes next
no_colon : (t : List ℕ) (x : ℕ) → head t ≡ x → (x ≡ 44) ⊎ ((x ≡ 93) ⊎ (x ≡ 125))
    → begins_colon (lex between t) ≡ false
unfolding lex
no_colon t x e (inl is) = rw (front t 44 (e ∙ is) (λ z. omega arith))
no_colon t x e (inr (inl is)) = rw (front t 93 (e ∙ is) (λ z. omega arith))
no_colon t x e (inr (inr is)) = rw (front t 125 (e ∙ is) (λ z. omega arith))

text_first : (p : Place) (s : List ℕ) (ls : List Lexeme) → begins_colon ls ≡ false
    → may_begin (place_of p) ≡ true
    → punctuate (place_of p) (token (Token.string s) ∷ ls)
    ≡ Token.string s ∷ punctuate (place_of AfterValue) ls
unfolding punctuate
text_first p s ls none may = grind arith

pub as_string : (p : Place) (t s rest : List ℕ) (x : ℕ)
    → lex between t ≡ token (Token.string s) ∷ lex between rest
    → head rest ≡ x → (x ≡ 44) ⊎ ((x ≡ 93) ⊎ (x ≡ 125)) → may_begin (place_of p) ≡ true
    → tokens_at p t ≡ Token.string s ∷ tokens_at AfterValue rest
as_string p t s rest x is e sign may = rw is (text_first p s (lex between rest) (no_colon rest x e sign) may)

-- ---- numbers

number_first : (p : Place) (s : List ℕ) (ls : List Lexeme) → may_begin (place_of p) ≡ true
    → punctuate (place_of p) (token (Token.number s) ∷ ls)
    ≡ Token.number s ∷ punctuate (place_of AfterValue) ls
unfolding punctuate
number_first p s ls may = grind arith

pub as_number : (p : Place) (t s rest : List ℕ) → lex between t ≡ token (Token.number s) ∷ lex between rest
    → may_begin (place_of p) ≡ true → tokens_at p t ≡ Token.number s ∷ tokens_at AfterValue rest
as_number p t s rest is may = rw is (number_first p s (lex between rest) may)

digit_range : (x : ℕ) → is_ascii_digit x ≡ true → (48 ≤ x) × (x ≤ 57)
digit_range x is = grind (arith, nat_tests)

digit_class : (x : ℕ) → 48 ≤ x → x ≤ 57 → class x ≡ other
digit_class x low high = grind (arith, ne_eqb)

-- digits up to a comma
digits_run : (xs : List ℕ) → get_or xs (prefix_len is_ascii_digit xs) 0 ≡ 44
    → lex in_word xs ≡ lex between (drop (prefix_len is_ascii_digit xs) xs)
unfolding lex
digits_run [] e = absurd (let no : 0 ≡ 44 = e in omega arith)
digits_run (x ∷ xs) e = step (is_ascii_digit x) refl e (digits_run xs)
  where
    step : (p : Bool) → is_ascii_digit x ≡ p
        → get_or (x ∷ xs) (cond p (1 + prefix_len is_ascii_digit xs) 0) 0 ≡ 44
        → (get_or xs (prefix_len is_ascii_digit xs) 0 ≡ 44
        → lex in_word xs ≡ lex between (drop (prefix_len is_ascii_digit xs) xs))
        → lex in_word (x ∷ xs) ≡ lex between (drop (cond p (1 + prefix_len is_ascii_digit xs) 0) (x ∷ xs))
    step false is e ih = cc
    step true is e ih =
        let next : suc (prefix_len is_ascii_digit xs) ≡ 1 + prefix_len is_ascii_digit xs = omega arith in
        grind (arith, digit_range, digit_class)

-- a number of digits
number_word : (t : List ℕ) (end : ℕ) → end ≡ prefix_len is_ascii_digit t → 0 < end → 49 ≤ head t
    → head t ≤ 57 → get_or t end 0 ≡ 44 → word t ≡ Token.number (take end t)
unfolding word after_number
number_word t end is some low high comma =
    let within : end < length t = grind (arith, lt_of_not-le, get_or_past) in
    let there : head (drop end t) ≡ 44 = grind (arith, get_or-drop, get_or_default) in
    let long : length t - length (drop end t) ≡ end = omega (arith, length-drop end t) in
    grind (arith, ne_eqb)

-- a number of digits stands first
pub number_cut : (t : List ℕ) (end : ℕ) → end ≡ prefix_len is_ascii_digit t → 0 < end
    → get_or t 0 0 ≢ 48 → get_or t end 0 ≡ 44
    → lex between t ≡ token (Token.number (take end t)) ∷ lex between (drop end t)
unfolding lex
number_cut t end is some nonzero comma = grind (arith, digit_range, digit_class, number_word, digits_run)
