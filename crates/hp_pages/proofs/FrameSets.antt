-- Bits of words, and the lowest number that passes a test.
use Rattle.std.proofs.Common.{Option, Some, None, zero, suc, ◌≡◌, ℕ, ◌<◌, ◌≤◌, ◌+◌, ◌-◌, ◌*◌, ◌/◌, ◌%◌, ◌^◌, Bool, true, false, cond, eqb, bit_and, bit_or, List, length, get_or, set, w64, refl, sym, ap, ◌∙◌, inl, inr, arith}
use Rattle.std.specs.Prelude.{find}
use Rattle.std.specs.List.{range_with_len}
use Rattle.std.specs.Int.{bit_at, bit_not, trailing_zeros}
use Rattle.std.proofs.lemmas.Bool.{cases_Bool, cases_eq, cases_lt, eq-eqb, ne_eqb}
use Rattle.std.proofs.lemmas.List.{get_or-set_other, get_or-set_same}
use Rattle.std.proofs.lemmas.Nat.{shr-shr, shr_le, div-mul-add, mod-mul-add}
use Rattle.std.proofs.lemmas.Nat.Bits.{bit_at_set_same, bit_at_set_other, bit_at_clear_same, bit_at_clear_other, bit_at-zero, bit_at_above, bit_at-trailing_zeros}
use Rattle.hp_pages.specs.FrameSets.{IsLowest, FindsLowest, bit_of, has}

-- a bit that was set, and one that was cleared
pub set_bit : (word at i : ℕ) (is_in : Bool) → at < 64 → is_in ≡ true
    → bit_at (bit_or word (1 * 2 ^ at % 2 ^ 64)) i ≡ cond (eqb i at) (bit_of is_in) (bit_at word i)
set_bit word at i is_in lt e = elim (cases_eq i at) [
  | inl same ↦ rw (same, e, eq-eqb at at refl) (bit_at_set_same w64 word at lt)
  | inr other ↦ rw (ne_eqb i at other) (bit_at_set_other w64 word at lt i other)
]

pub clear_bit : (word at i : ℕ) (is_in : Bool) → at < 64 → i < 64 → is_in ≡ false
    → bit_at (bit_and word (bit_not w64 (1 * 2 ^ at % 2 ^ 64))) i
    ≡ cond (eqb i at) (bit_of is_in) (bit_at word i)
clear_bit word at i is_in lt within e = elim (cases_eq i at) [
  | inl same ↦ rw (same, e, eq-eqb at at refl) (bit_at_clear_same w64 word at lt)
  | inr other ↦ rw (ne_eqb i at other) (bit_at_clear_other w64 word at lt i within other)
]

-- a bit of a shifted word
bit_up : (n k i : ℕ) → k ≤ i → bit_at n i ≡ bit_at (n / 2 ^ k) (i - k)
bit_up n k i le = ap (λ j. n / 2 ^ j % 2) (omega arith) ∙ sym (ap (λ m. m % 2) (shr-shr n k (i - k)))

-- a shifted word with no bit
pub no_bit : (word from : ℕ) → word / 2 ^ from ≡ 0 → FindsLowest (λ i. eqb (bit_at word i) 1) from 64 None
no_bit word from e n low high = rw (bit_up word from n low, e, bit_at-zero (n - from)) refl

-- the lowest bit of a shifted word
first_bit_low : (word from n : ℕ) → word < 2 ^ 64 → bit_at word n ≡ 1 → n < 64
first_bit_low word from n fits one = elim (cases_lt n 64) [
  | inl low ↦ low
  | inr high ↦ absurd (let e : 0 ≡ 1 = sym (bit_at_above word 64 n fits high) ∙ one in omega arith)
]

pub first_bit : (word from : ℕ) → word < 2 ^ 64 → 0 < word / 2 ^ from
    → IsLowest (λ i. eqb (bit_at word i) 1) from 64 (from + trailing_zeros w64 (word / 2 ^ from))
first_bit word from fits some =
    let rest = word / 2 ^ from in
    let zeros = trailing_zeros w64 rest in
    let lowest = bit_at-trailing_zeros w64 rest some (omega (arith, shr_le word from, fits)) in
    let one : bit_at word (from + zeros) ≡ 1 =
    bit_up word from (from + zeros) (omega arith)
    ∙ ap (bit_at rest) (let e : from + zeros - from ≡ zeros = omega arith in e) ∙ lowest.1 in
    record {
      low = omega arith;
      high = first_bit_low word from (from + zeros) fits one;
      passes = eq-eqb _ _ one;
      below = λ n low high. rw (bit_up word from n low, lowest.2 (n - from) (omega arith)) refl;
    }

-- a number among the 64 of a word
pub same_word : (at n : ℕ) → at ≤ n → n < at / 64 * 64 + 64
    → (n / 64 ≡ at / 64) × (at % 64 ≤ n % 64) × (n % 64 < 64)
same_word at n low high = (omega arith, omega arith, omega arith)

-- a word has no frame at or after one
pub none_in_word : (words : List ℕ) (first at : ℕ)
    → ((n : ℕ) → first ≤ n → n < at → has words n ≡ false)
    → FindsLowest (λ i. eqb (bit_at (get_or words (at / 64) 0) i) 1) (at % 64) 64 None
    → (n : ℕ) → first ≤ n → n < at / 64 * 64 + 64 → has words n ≡ false
none_in_word words first at before none n low high = grind (arith, cases_lt, same_word)

-- nor have words that are 0
pub none_in_words : (words : List ℕ) (first at past : ℕ)
    → ((n : ℕ) → first ≤ n → n < at / 64 * 64 + 64 → has words n ≡ false)
    → ((k : ℕ) → at / 64 + 1 ≤ k → k < past → get_or words k 0 ≡ 0)
    → (n : ℕ) → first ≤ n → n < past * 64 → has words n ≡ false
none_in_words words first at past before empty n low high = grind (arith, cases_lt, bit_at-zero)

-- no frame of the word is below its lowest
found_below : (words : List ℕ) (first at bit : ℕ)
    → ((n : ℕ) → first ≤ n → n < at → has words n ≡ false)
    → IsLowest (λ i. eqb (bit_at (get_or words (at / 64) 0) i) 1) (at % 64) 64 bit
    → (n : ℕ) → first ≤ n → n < at / 64 * 64 + bit → has words n ≡ false
found_below words first at bit before lowest n low high = grind (arith, cases_lt, same_word)

-- a word's lowest frame at or after one
pub found_in_word : (words : List ℕ) (first at bit : ℕ) → first ≤ at
    → ((n : ℕ) → first ≤ n → n < at → has words n ≡ false)
    → IsLowest (λ i. eqb (bit_at (get_or words (at / 64) 0) i) 1) (at % 64) 64 bit
    → (past : ℕ) → at / 64 * 64 + bit < past → IsLowest (has words) first past (at / 64 * 64 + bit)
found_in_word words first at bit from before lowest past within =
    grind (arith, div-mul-add, mod-mul-add, found_below)

-- ---- the lowest number of a range

-- the same for another test with the same results
pub finds_same : (p q : ℕ → Bool) (first past : ℕ) (found : Option ℕ) → ((n : ℕ) → n < past → p n ≡ q n)
    → FindsLowest p first past found → FindsLowest q first past found
finds_same p q first past found same lowest = grind arith

-- the search from the next number on
next_lowest : (p : ℕ → Bool) (first count : ℕ) (found : Option ℕ) → p first ≡ false
    → FindsLowest p first (first + suc count) found → FindsLowest p (first + 1) (first + 1 + count) found
next_lowest p first count found not_here lowest = grind (arith, cases_eq)

-- if the first number passes
here_lowest : (p : ℕ → Bool) (first past : ℕ) (found : Option ℕ) → first < past → p first ≡ true
    → FindsLowest p first past found → found ≡ Some first
here_lowest p first past found lt here lowest = grind (arith, cases_eq)

-- the lowest number is what `find` finds
pub found_is : (p : ℕ → Bool) (first count : ℕ) (found : Option ℕ) → FindsLowest p first (first + count) found
    → found ≡ find p (range_with_len first count)
found_is p first zero None finds = refl
found_is p first zero (Some found) finds = absurd (omega (arith, finds.low, finds.high))
found_is p first (suc count) found finds = elim (cases_Bool (p first)) [
  | inl here ↦ rw here (here_lowest p first (first + suc count) found (omega arith) here finds)
  | inr not_here ↦
      rw not_here (found_is p (first + 1) count found (next_lowest p first count found not_here finds))
]

-- ---- a set with one word changed

-- a bit of a truth value
bit-one : (b : Bool) → eqb (bit_of b) 1 ≡ b
bit-one b = grind arith

-- the set after one bit of a frame's word changed
pub has-set : (words : List ℕ) (frame before word : ℕ) (is_in : Bool) → frame < 64 * length words
    → before ≡ get_or words (frame / 64) 0
    → ((i : ℕ) → i < 64 → bit_at word i ≡ cond (eqb i (frame % 64)) (bit_of is_in) (bit_at before i))
    → (n : ℕ) → has (set words (frame / 64) word) n ≡ cond (eqb n frame) is_in (has words n)
has-set words frame before word is_in low old bits n =
    grind (arith, cases_eq, get_or-set_same, get_or-set_other, ne_eqb, eq-eqb, bit-one)
