-- The change of one list into another.
use Rattle.std.specs.Prelude.{ℕ, ◌≡◌, ◌≢◌, ◌+◌, ◌-◌, ◌<◌, ◌≤◌, List, ◌++◌, drop, length, slice_get, take}

-- a change of a list: from index `at` on, `gone` entries are removed and the entries `put` are
-- inserted
pub record SpliceValue : Type 0 where
  pub at : ℕ
  pub gone : ℕ
  pub put : List ℕ

-- the list after the change
abbrev pub spliced : SpliceValue → List ℕ → List ℕ
spliced s was = take s.at was ++ s.put ++ drop (s.at + s.gone) was

-- the first n entries are the same
abbrev pub is_start : List ℕ → List ℕ → ℕ → Type 0
is_start was now n = (n ≤ length was) × (n ≤ length now) × (take n was ≡ take n now)

-- the first n entries are the same, and the entries after them, if both lists have one, differ
abbrev pub is_last_start : List ℕ → List ℕ → ℕ → Type 0
is_last_start was now n =
    is_start was now n × (n < length was → n < length now → slice_get was n ≢ slice_get now n)

-- the last n entries are the same, and none of them is among the first `start`
abbrev pub is_end : List ℕ → List ℕ → (start n : ℕ) → Type 0
is_end was now start n =
    (start + n ≤ length was) × (start + n ≤ length now)
    × (drop (length was - n) was ≡ drop (length now - n) now)

-- the last n entries are the same, none of them is among the first `start`, and the entries before
-- them, if both lists have one more, differ
abbrev pub is_last_end : List ℕ → List ℕ → (start n : ℕ) → Type 0
is_last_end was now start n =
    is_end was now start n
    × (start + n < length was → start + n < length now
    → slice_get was (length was - 1 - n) ≢ slice_get now (length now - 1 - n))

-- the splice turns the first list into the second, and leaves out the entries that both have in
-- common at their beginnings and at their ends
pub record IsSplice (was now : List ℕ) (s : SpliceValue) : Type 0 where
  pub leads : spliced s was ≡ now
  pub begins : is_last_start was now s.at
  pub ends : is_last_end was now s.at (length was - s.at - s.gone)
