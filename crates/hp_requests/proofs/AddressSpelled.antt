-- A text is an address exactly if it is `0x` and 1 to 16 hexadecimal digits.
use Rattle.std.proofs.Common.{◌≡◌, ℕ, ◌+◌, ◌*◌, ◌<◌, ◌≤◌, Bool, true, false, cond, ◌&&◌, eqb, ltb, List, [], ◌∷◌, length, drop, Some, None, refl, codes}
use Rattle.std.specs.Prelude.{nat_le}
use Rattle.std.specs.Char.{digit_value}
use Rattle.std.specs.List.{starts_with}
use Rattle.std.specs.Option.{option_and_then}
use Rattle.std.specs.Str.Parse.{AllDigits, IsNumeral, digits_value, digits_value_after}
use Rattle.std.proofs.lemmas.Bool.{and_from, and_parts, le-leb, leb-true, lt-ltb, ltb-true}
use Rattle.std.proofs.lemmas.Bool.Decides.{Decides-eqb}
use Rattle.std.proofs.lemmas.Slice.Eq.{starts_is}
use Rattle.hp_requests.specs.Laws.{AddressesAreSpelled}
use Rattle.hp_requests.specs.Words.{address_of, hex_after, hex_number}
use Rattle.hp_units.proofs.NumbersSpelled.{chosen}

-- hexadecimal digits after a number make the number that they write after it
digits_make : (number : ℕ) (bytes : List ℕ) → AllDigits 16 bytes
    → hex_after number bytes ≡ Some (digits_value_after 16 number bytes)
digits_make number [] h = refl
digits_make number (byte ∷ bytes) h =
    rw (lt-ltb (digit_value byte) 16 h.0) (digits_make (number * 16 + digit_value byte) bytes h.1)

-- a first digit that makes a number is one, if the rest makes its number of digits
first_made : (test : Bool) (number byte : ℕ) (bytes : List ℕ) (made : ℕ)
    → (test ≡ true → digit_value byte < 16)
    → (hex_after (number * 16 + digit_value byte) bytes ≡ Some made
    → AllDigits 16 bytes × (digits_value_after 16 (number * 16 + digit_value byte) bytes ≡ made))
    → option_and_then (λ digit. hex_after (number * 16 + digit) bytes)
    (cond test (Some (digit_value byte)) None) ≡ Some made
    → AllDigits 16 (byte ∷ bytes) × (digits_value_after 16 number (byte ∷ bytes) ≡ made)
first_made true number byte bytes made small rest e = ((small refl, (rest e).0), (rest e).1)
first_made false number byte bytes made small rest e = absurd cc

-- and if bytes make a number, they are such digits
made_of_digits : (number : ℕ) (bytes : List ℕ) (made : ℕ) → hex_after number bytes ≡ Some made
    → AllDigits 16 bytes × (digits_value_after 16 number bytes ≡ made)
made_of_digits number [] made e = (tt, cc)
made_of_digits number (byte ∷ bytes) made e =
    first_made (ltb (digit_value byte) 16) number byte bytes made (ltb-true (digit_value byte) 16)
    (made_of_digits (number * 16 + digit_value byte) bytes made) e

-- 1 to 16 hexadecimal digits are the number that they write
number_is : (digits : List ℕ) → IsNumeral 16 digits → length digits ≤ 16
    → hex_number digits ≡ Some (digits_value 16 digits)
unfolding hex_number
number_is digits numeral few =
    rw (and_from (ltb 0 (length digits)) (nat_le (length digits) 16) (lt-ltb _ _ numeral.0) (le-leb _ _ few))
    (digits_make 0 digits numeral.1)

-- and what is a number is such digits
number_named : (digits : List ℕ) (number : ℕ) → hex_number digits ≡ Some number
    → IsNumeral 16 digits × (length digits ≤ 16) × (digits_value 16 digits ≡ number)
unfolding hex_number
number_named digits number e =
    let made = chosen (ltb 0 (length digits) && nat_le (length digits) 16) (hex_after 0 digits) number e in
    let tests = and_parts (ltb 0 (length digits)) (nat_le (length digits) 16) made.0 in
    let written = made_of_digits 0 digits number made.1 in
    ((ltb-true _ _ tests.0, written.0), leb-true _ _ tests.1, written.1)

-- an address is `0x` and such digits, and the other way round
pub addresses_law : AddressesAreSpelled
unfolding address_of
addresses_law text address = (
  λ e. let made = chosen (starts_with eqb text (codes "0x")) (hex_number (drop 2 text)) address e in
      let split =
      (starts_is Decides-eqb text (codes "0x") (starts_with eqb text (codes "0x")) refl).0 made.0 in
      let number = number_named (drop 2 text) address made.1 in
      (drop 2 text, split, number.0, number.1, number.2),
  λ w. rw (w.1, number_is w.0 w.2 w.3, w.4),
)
