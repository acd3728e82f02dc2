-- The events of a log in columns of equal numbers of events. A column keeps the greatest count of
-- frames in use that one of its events left.
use Rattle.std.specs.Prelude.{ℕ, zero, suc, ◌+◌, ◌-◌, ◌*◌, ◌/◌, List, min, slice_index}

pub record Sampled : Type 0 where
  -- how many events a full column has, how many events there are, and how many more fit into the
  -- last column
  pub width : ℕ
  pub events : ℕ
  pub room : ℕ
  -- the count that the last event left
  pub count : ℕ
  -- the greatest count of each column
  pub peaks : List ℕ

-- the greatest count of column e / width, in which event e lies; events are counted from 0
abbrev pub peak_at : Sampled → ℕ → ℕ
peak_at s e = slice_index s.peaks (e / s.width)

-- how many events lie in column j, and in the first k columns
abbrev pub events_in : Sampled → ℕ → ℕ
events_in s j = min s.width (s.events - j * s.width)

abbrev pub events_below : Sampled → ℕ → ℕ
events_below s zero = 0
events_below s (suc k) = events_below s k + events_in s k
