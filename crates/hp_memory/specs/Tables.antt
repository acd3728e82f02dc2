-- How far a table is copied to another.
use Rattle.std.specs.Prelude.{ℕ, ◌≡◌, ◌<◌, ◌≤◌, ◌⊎◌, List, [], length, slice_index_or}

-- the first `number` entries are the wanted ones, the others are as in an empty table
pub record AreCopied {A : Type 0} (past none : A) (number : ℕ) (wanted now : List A) : Type 0 where
  pub size : length now ≡ length wanted
  pub done : (at : ℕ) → at < number → slice_index_or now at past ≡ slice_index_or wanted at past
  pub later : (at : ℕ) → number ≤ at → at < length wanted → slice_index_or now at past ≡ none

-- each list is the wanted one, or empty
pub record ArePartly (wanted now : List (List ℕ)) : Type 0 where
  pub size : length now ≡ length wanted
  pub each : (at : ℕ)
      → (slice_index_or now at [] ≡ slice_index_or wanted at []) ⊎ (slice_index_or now at [] ≡ [])
