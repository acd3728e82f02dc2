-- Bytes that are cut at their first newline.
use Rattle.std.specs.Prelude.{◌≡◌, ℕ, List, ◌∷◌, ◌++◌}
use Rattle.hp_streams.specs.Talks.{IsWhole, newline}

-- `front` is the bytes before the first newline, `after` those after it
pub record IsCut (bytes front after : List ℕ) : Type 0 where
  pub is : bytes ≡ front ++ newline ∷ after
  pub whole : IsWhole front
