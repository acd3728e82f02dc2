-- A word is a number just where it is the number in decimal, and the number fits.
use Rattle.std.proofs.Common.{◌≡◌, ℕ, ◌^◌, ◌<◌, ◌≤◌, Bool, true, false, cond, not, ◌&&◌, ◌||◌, eqb, ltb, List, [], ◌∷◌, length, get_or, Option, Some, None, refl, sym, ap, subst, ◌∙◌, arith, inl, inr, ◌⊎◌, ◌↔◌}
use Rattle.std.proofs.lemmas.Bool.{and_from, and_parts, ltb-true, lt-ltb, eq-eqb, ne_eqb, cases_lt}
use Rattle.std.proofs.lemmas.Fmt.{digits_decimal, digits_value-decimal, decimal-digits_value, decimal_nonempty, first_decimal, decimal_digit}
use Rattle.std.proofs.lemmas.Str.Parse.{IsNumeralModel, numerals_by_value, tells_all_ascii_digits}
use Rattle.std.proofs.Math.Pow.{pow_mono}
use Rattle.std.specs.Fmt.{decimal}
use Rattle.std.specs.Str.{all_ascii_digits}
use Rattle.std.specs.Str.Parse.{digits_value}
use Rattle.hp_units.specs.NumberWords.{is_bare, is_digits, digits_in, number_of}

-- std's words for digits and their value
pub own : IsNumeralModel (λ ds. all_ascii_digits ds ≡ true) (digits_value 10)
own = numerals_by_value _ tells_all_ascii_digits

-- a choice that is there was made
pub chosen : {A : Type 0} (b : Bool) (x : Option A) (y : A) → cond b x None ≡ Some y
    → (b ≡ true) × (x ≡ Some y)
chosen true x y e = (refl, e)
chosen false x y e = absurd cc

-- what stands in a Some
some_is : (x y : ℕ) → Some x ≡ Some y → x ≡ y
some_is x y e = cc

-- a bare word that begins with 0 is one digit
no_zero : (word : List ℕ) → is_bare word ≡ true → get_or word 0 0 ≡ 48 → length word < 2
no_zero word h e =
    let p =
    and_parts (not (eqb (get_or word 0 0) 43)) (ltb (length word) 2 || not (eqb (get_or word 0 0) 48)) h in
    let t : eqb (get_or word 0 0) 48 ≡ true = eq-eqb _ _ e in
    short (ltb (length word) 2) (eqb (get_or word 0 0) 48) (length word) p.1 t (ltb-true (length word) 2)
  where
    short : (a b : Bool) (n : ℕ) → (a || not b) ≡ true → b ≡ true → (a ≡ true → n < 2) → n < 2
    short true b n h t k = k refl
    short false true n h t k = absurd cc
    short false false n h t k = absurd cc

-- 2 ^ bits is at most 2 ^ 64
fits : (bits n : ℕ) → bits ≤ 64 → n < 2 ^ bits → n < 2 ^ 64
fits bits n le lt = omega (arith, pow_mono {i = bits} {j = 64} le)

-- a word that is a number is its decimal digits, and the number fits
pub is_spelled : (bits : ℕ) (word : List ℕ) (n : ℕ) → bits ≤ 64 → number_of bits word ≡ Some n
    → (word ≡ decimal n) × (n < 2 ^ bits)
unfolding number_of digits_in
is_spelled bits word n le e =
    let a = chosen (is_bare word) (digits_in bits word) n e in
    let b =
    chosen (is_digits word && ltb (digits_value 10 word) (2 ^ bits)) (Some (digits_value 10 word)) n a.1 in
    let p = and_parts (is_digits word) (ltb (digits_value 10 word) (2 ^ bits)) b.0 in
    let d = and_parts (all_ascii_digits word) (ltb 0 (length word)) p.0 in
    let v : digits_value 10 word ≡ n = some_is _ _ b.1 in
    let small : digits_value 10 word < 2 ^ bits = ltb-true _ _ p.1 in
    let some : 0 < length word = ltb-true _ _ d.1 in
    let whole =
    decimal-digits_value own word d.0 some
    (λ z. let s : length word < 2 = no_zero word a.0 z in omega arith) (fits bits _ le small) in
    (sym whole ∙ ap decimal v, subst (λ (k : ℕ). k < 2 ^ bits) v small)

-- a word is bare by its first digit and its length
first_bare : (f len : ℕ) → (48 < f) ⊎ ((f ≡ 48) × (len < 2))
    → (not (eqb f 43) && (ltb len 2 || not (eqb f 48))) ≡ true
first_bare f len (inl above) =
    let a : eqb f 43 ≡ false = ne_eqb _ _ (λ e. omega arith) in
    let b : eqb f 48 ≡ false = ne_eqb _ _ (λ e. omega arith) in
    rw (a, b) (or_true (ltb len 2))
  where
    or_true : (b : Bool) → (b || true) ≡ true
    or_true true = refl
    or_true false = refl
first_bare f len (inr p) =
    let a : eqb f 43 ≡ false = ne_eqb _ _ (λ e. omega arith) in
    let b : ltb len 2 ≡ true = lt-ltb _ _ p.1 in
    rw (a, b) refl

-- decimal digits are bare
bare_decimal : (n : ℕ) → n < 2 ^ 64 → is_bare (decimal n) ≡ true
bare_decimal n small =
    first_bare (get_or (decimal n) 0 0) (length (decimal n)) (elim (cases_lt 0 n) [
      | inl above ↦ inl (first_decimal n above small)
      | inr none ↦ let zero_digit : decimal n ≡ 48 ∷ [] =
          ap decimal (zero_is n none) ∙ decimal_digit 0 (omega arith) in
          inr (ap (λ (l : List ℕ). get_or l 0 0) zero_digit, rw zero_digit (omega arith))
    ])
  where
    zero_is : (n : ℕ) → n ≤ 0 → n ≡ 0
    zero_is n h = omega arith

-- the decimal digits of a number that fits are that number
pub spelled_is : (bits : ℕ) (word : List ℕ) (n : ℕ) → bits ≤ 64 → (word ≡ decimal n) × (n < 2 ^ bits)
    → number_of bits word ≡ Some n
unfolding number_of digits_in
spelled_is bits word n le p =
    let small = fits bits n le p.1 in
    let value : digits_value 10 (decimal n) ≡ n = digits_value-decimal own n small in
    let test : (is_digits (decimal n) && ltb (digits_value 10 (decimal n)) (2 ^ bits)) ≡ true =
    and_from _ _ (and_from _ _ (digits_decimal own n small) (lt-ltb _ _ (decimal_nonempty n small)))
    (rw value (lt-ltb _ _ p.1)) in
    ap (number_of bits) p.0 ∙ rw (bare_decimal n small, test, value) refl

-- both directions
pub numbers_law : (bits : ℕ) (word : List ℕ) (n : ℕ) → bits ≤ 64
    → (number_of bits word ≡ Some n) ↔ ((word ≡ decimal n) × (n < 2 ^ bits))
numbers_law bits word n le = (is_spelled bits word n le, spelled_is bits word n le)
