-- Numbers of few digits, read digit by digit.
use Rattle.std.proofs.Common.{◌≡◌, ℕ, ◌+◌, ◌-◌, ◌*◌, ◌^◌, ◌<◌, ◌≤◌, true, cond, ◌&&◌, ltb, leb, List, [], ◌∷◌, length, get_or, drop, Option, Some, None, refl, sym, subst, ◌∙◌, arith, add-one, drop-cons}
use Rattle.std.proofs.Math.Nat.{pow-suc, pow-le-pow_right}
use Rattle.std.specs.Str.{all_ascii_digits}
use Rattle.std.specs.Str.Parse.{digits_value, digits_value_after}
use Rattle.std.specs.Char.{digit_value}
use Rattle.std.specs.Prelude.{IfSome}
use Rattle.std.proofs.lemmas.Bool.{and_parts, le-ltb, lt-ltb, leb-true, ne_eqb}
use Rattle.std.proofs.lemmas.List.{drop_all}
use Rattle.std.proofs.lemmas.Str.{digit_value_digit}
use Rattle.hp_units.specs.NumberWords.{is_bare, digits_in, number_of}
use Rattle.hp_scenario.specs.Words.{IsPlainNumber}

-- ---- digit by digit

-- what is left of the digits
pub record AreLeft (digits left : List ℕ) (number : ℕ) : Type 0 where
  pub all : all_ascii_digits left ≡ all_ascii_digits digits
  pub value : digits_value_after 10 number left ≡ digits_value 10 digits

digit_left : (digits rest : List ℕ) (c n m : ℕ) → (leb 48 c && leb c 57) ≡ true → m ≡ n * 10 + digit_value c
    → AreLeft digits (c ∷ rest) n → AreLeft digits rest m
digit_left digits rest c n m digit next left = grind arith

pub one_digit : (digits : List ℕ) (i n c m : ℕ) → i < length digits → c ≡ get_or digits i 0
    → (leb 48 c && leb c 57) ≡ true → m ≡ n * 10 + (c - 48) → AreLeft digits (drop i digits) n
    → AreLeft digits (drop (i + 1) digits) m
one_digit digits i n c m lt is digit next left =
    let both = and_parts (leb 48 c) (leb c 57) digit in
    let value = digit_value_digit c (leb-true 48 c both.0, leb-true c 57 both.1) in
    digit_left digits (drop (i + 1) digits) c n m digit (omega arith) (subst (λ (xs : List ℕ). AreLeft digits
    xs n) (drop-cons digits i 0 lt ∙ rw (sym is, add-one i) refl) left)

pub all_left : (digits : List ℕ) → AreLeft digits (drop 0 digits) 0
all_left digits = record { all = refl; value = refl }

nothing_left : (digits : List ℕ) (n : ℕ) → AreLeft digits [] n
    → (all_ascii_digits digits ≡ true) × (digits_value 10 digits ≡ n)
nothing_left digits n left = (sym left.all, sym left.value)

pub none_left : (digits : List ℕ) (i n : ℕ) → length digits ≤ i → AreLeft digits (drop i digits) n
    → (all_ascii_digits digits ≡ true) × (digits_value 10 digits ≡ n)
none_left digits i n over left = grind (arith, nothing_left, drop_all)

-- so many digits write a number below 10 ^ i
pub short_number : (i n c m : ℕ) → n < 10 ^ i → (leb 48 c && leb c 57) ≡ true → m ≡ n * 10 + (c - 48)
    → m < 10 ^ (i + 1)
short_number i n c m lt digit next =
    let both = and_parts (leb 48 c) (leb c 57) digit in
    let more : 10 ^ (i + 1) ≡ 10 ^ i * 10 = rw (add-one i) (pow-suc 10 i) in
    omega (arith, lt, leb-true 48 c both.0, (leb-true c 57 both.1), next, more)

-- after fewer than 18 digits there is room for one more
pub has_room : (i n len : ℕ) → n < 10 ^ i → i < len → len ≤ 18 → n * 10 + 9 < 18446744073709551616
has_room i n len lt before few = grind (arith, pow-le-pow_right)

-- ---- the number that a word is

-- a word that is one digit
pub lone : (word : List ℕ) (n : ℕ) → length word ≡ 1
    → (leb 48 (get_or word 0 0) && leb (get_or word 0 0) 57) ≡ true → n ≡ get_or word 0 0 - 48
    → IsPlainNumber word n
lone (c ∷ []) n one digit is = grind (arith, and_parts, leb-true, one_digit, all_left, none_left, ne_eqb)
lone _ n one digit is = absurd cc

pub plain : (word : List ℕ) (r : Option ℕ) → 0 < length word → is_bare word ≡ true
    → IfSome r (λ n. all_ascii_digits word ≡ true) → IfSome r (λ n. digits_value 10 word ≡ n)
    → IfSome r (λ n. IsPlainNumber word n)
plain word r some bare d v = grind (arith, lt-ltb)

pub plain_number : (bits : ℕ) (word : List ℕ) (n : ℕ) → IsPlainNumber word n
    → number_of bits word ≡ cond (ltb n (2 ^ bits)) (Some n) None
unfolding number_of digits_in
plain_number bits word n h = rw (h.0, h.1, h.2) refl

pub plain_fits : (bits : ℕ) (word : List ℕ) (n : ℕ) → IsPlainNumber word n → n < 2 ^ bits
    → Some n ≡ number_of bits word
plain_fits bits word n h lt = sym (plain_number bits word n h ∙ rw (lt-ltb _ _ lt) refl)

pub plain_exceeds : (bits : ℕ) (word : List ℕ) (n : ℕ) → IsPlainNumber word n → 2 ^ bits ≤ n
    → None ≡ number_of bits word
plain_exceeds bits word n h le = sym (plain_number bits word n h ∙ rw (le-ltb _ _ le) refl)

-- what a number is that digits write, one more after another
pub ruleset digits_read = (all_left, one_digit, none_left, short_number)
