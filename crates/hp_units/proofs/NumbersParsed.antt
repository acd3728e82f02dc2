-- What `parse` gives for a bare word is the number that the word is.
use Rattle.std.proofs.Common.{◌≡◌, ℕ, ◌^◌, ◌<◌, Bool, true, false, cond, ◌&&◌, ◌||◌, not, eqb, ltb, List, length, get_or, Option, Some, None, Result, Ok, Err, refl}
use Rattle.std.specs.Result.{result_ok}
use Rattle.std.specs.Str.{all_ascii_digits}
use Rattle.std.specs.Str.Parse.{digits_value, ParsesUnsigned}
use Rattle.std.proofs.lemmas.Str.Parse.{parse_plain}
use Rattle.std.proofs.lemmas.Bool.{and_from, and_parts, ltb-true, lt-ltb, eq-eqb}
use Rattle.std.specs.Result.{OkIff}
use Rattle.hp_units.proofs.NumbersSpelled.{own}
use Rattle.hp_units.specs.NumberWords.{is_bare, is_digits, digits_in, number_of}

-- a test whose denial holds fails
first_fails : (a b : Bool) → (not a && b) ≡ true → a ≡ false
first_fails true b p = absurd cc
first_fails false b p = refl

-- a bare word has no `+` in front
not_plus : (word : List ℕ) → is_bare word ≡ true → get_or word 0 0 ≡ 43 → ⊥
not_plus word h e =
    let t : eqb (get_or word 0 0) 43 ≡ true = eq-eqb _ _ e in
    let f : eqb (get_or word 0 0) 43 ≡ false =
    first_fails (eqb (get_or word 0 0) 43) (ltb (length word) 2 || not (eqb (get_or word 0 0) 48)) h in
    cc

-- a result by cases is the choice between them
chosen : (b : Bool) (n : ℕ) (r : Option ℕ) → (b ≡ true → r ≡ Some n) → (b ≡ false → r ≡ None)
    → r ≡ cond b (Some n) None
chosen true n r p q = p refl
chosen false n r p q = q refl

-- what parsing digits gives is the number that they are
gives : {E : Type 0} (bits : ℕ) (word : List ℕ) (r : Result ℕ E)
    → OkIff r ((all_ascii_digits word ≡ true) × (0 < length word) × (digits_value 10 word < 2 ^ bits))
    (digits_value 10 word)
    → result_ok r ≡ digits_in bits word
unfolding digits_in
gives bits word (Ok x) h =
    let t : (is_digits word && ltb (digits_value 10 word) (2 ^ bits)) ≡ true =
    and_from _ _ (and_from _ _ h.0.0 (lt-ltb _ _ h.0.1)) (lt-ltb _ _ h.0.2) in
    rw (t, h.1) refl
gives bits word (Err e) h =
    chosen (is_digits word && ltb (digits_value 10 word) (2 ^ bits)) (digits_value 10 word) None
    (λ t. let tests = and_parts _ _ t in
    let digits = and_parts _ _ tests.0 in
    absurd (h (digits.0, ltb-true _ _ digits.1, ltb-true _ _ tests.1)))
    (λ _. refl)

-- what parsing a bare word gives is the number that it is
pub parsed : {E : Type 0} (bits : ℕ) (word : List ℕ) (r : Result ℕ E) → ParsesUnsigned bits 10 word r
    → is_bare word ≡ true → result_ok r ≡ number_of bits word
unfolding number_of
parsed bits word r h bare = rw bare (gives bits word r (parse_plain own bits word r h (not_plus word bare)))

-- another word is no number
pub refused : (bits : ℕ) (word : List ℕ) → is_bare word ≡ false → number_of bits word ≡ None
unfolding number_of
refused bits word h = rw h refl
