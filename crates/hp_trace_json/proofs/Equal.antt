-- Keys that are equal, or are not.
use Rattle.std.proofs.Common.{arith, ◌≡◌, ◌≢◌, ℕ, ◌==◌, ◌&&◌, Bool, true, false, List, nat_eq, sym, ap, ◌∙◌}
use Rattle.std.specs.Cmp.Lexicographic.{pointwise}
use Rattle.std.proofs.lemmas.Bool.{eq-eqb, ne_eqb, cases_eq}
use Rattle.std.proofs.lemmas.Bool.Decides.{Decides-eqb}
use Rattle.hp_plain.proofs.EqualLists.{lists_told}

pub is_key : (key n : ℕ) → key ≡ n → (key == n) ≡ true
is_key key n same = eq-eqb key n same

pub is_other : (key n k : ℕ) → key ≡ n → k ≢ n → (key == k) ≡ false
is_other key n k same other = ne_eqb key k (λ e. other (sym e ∙ same))

and_true : (a b : Bool) → a ≡ true → b ≡ true → (a && b) ≡ true
and_true a b first last = cc

and_false : (a b : Bool) → b ≡ false → (a && b) ≡ false
and_false a b last = grind arith

false_and : (a b : Bool) → a ≡ false → (a && b) ≡ false
false_and a b first = ap (λ (x : Bool). x && b) first

pub are_keys : (a b m n : ℕ) → a ≡ m → b ≡ n → ((a == m) && (b == n)) ≡ true
are_keys a b m n first last = and_true (a == m) (b == n) (is_key a m first) (is_key b n last)

pub last_other : (a b m n k : ℕ) → b ≡ n → k ≢ n → ((a == m) && (b == k)) ≡ false
last_other a b m n k last other = and_false (a == m) (b == k) (is_other b n k last other)

pub first_other : (a b m k n : ℕ) → a ≡ m → k ≢ m → ((a == k) && (b == n)) ≡ false
first_other a b m k n first other = false_and (a == k) (b == n) (is_other a m k first other)

pub are_words : (a b d m n k : ℕ) → a ≡ m → b ≡ n → d ≡ k → (((a == m) && (b == n)) && (d == k)) ≡ true
are_words a b d m n k first second third = grind (arith, and_true, are_keys, is_key)

pub last_word : (a b d m n k other : ℕ) → d ≡ k → other ≢ k → (((a == m) && (b == n)) && (d == other)) ≡ false
last_word a b d m n k other last differs = grind (arith, and_false, is_other)

pub other_word : (a b d m n o p i : ℕ) → a ≡ m → b ≡ n → (o ≡ m → p ≡ n → ⊥)
    → (((a == o) && (b == p)) && (d == i)) ≡ false
other_word a b d m n o p i first last other = grind (arith, cases_eq, false_and, last_other, is_other)

pub same_numbers : (xs ys : List ℕ) (r : Bool) → r ≡ pointwise nat_eq xs ys → r ≡ true → xs ≡ ys
same_numbers xs ys r is hit = rw hit at (lists_told Decides-eqb xs ys r is)

pub other_numbers : (xs ys : List ℕ) (r : Bool) → r ≡ pointwise nat_eq xs ys → r ≡ false → xs ≢ ys
other_numbers xs ys r is miss = rw miss at (lists_told Decides-eqb xs ys r is)
