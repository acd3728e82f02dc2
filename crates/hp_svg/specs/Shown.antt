-- The rows that a picture shows.
use Rattle.std.specs.Prelude.{◌≡◌, ◌==◌, List, [], ◌∷◌, ◌++◌, None, if◌then◌else◌}
use Rattle.std.specs.List.{flat_map}
use Rattle.hp_map.specs.Rounds.{IsJoinOf, RoundsValue, more_text}
use Rattle.hp_map.specs.Rows.{RowValue, row_with}

-- a line about the rounds that are not shown; none if all are shown
abbrev pub more_row : RoundsValue → List RowValue
more_row r = if r.more == 0 then [] else row_with (more_text r) [] None [] ∷ []

abbrev pub shown_of : RoundsValue → List RowValue
shown_of r = r.rows ++ more_row r

-- each row is shown, or is in a round that repeats the round right above
pub record AreShown (rows shown : List RowValue) : Type 0 where
  pub entries : List RoundsValue
  pub joined : IsJoinOf rows entries
  pub is : shown ≡ flat_map shown_of entries
