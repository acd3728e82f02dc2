-- The parts of a text, while it is read.
use Rattle.std.specs.Prelude.{ℕ, List}
use Rattle.hp_schedules.specs.declared.tally.Ending.{Ending}

-- a part: its number, from 1, and the ends in its lines
pub record PartEndsValue : Type 0 where
  pub number : ℕ
  pub ends : List Ending

-- the complete parts, the last part, and the number of ends that the last part's head gives
pub record GatheringValue : Type 0 where
  pub done : List PartEndsValue
  pub last : PartEndsValue
  pub named : ℕ
