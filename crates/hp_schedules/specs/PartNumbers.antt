-- The number by which a user names a part.
use Rattle.std.specs.Prelude.{ℕ, ◌-◌}
use Rattle.hp_schedules.specs.Parts.{PartValue}

-- part `number` of `of`, counted from 1
pub record NumberValue : Type 0 where
  pub number : ℕ
  pub of : ℕ

-- the part that the number names, if the first `calls` calls of a schedule decide its part
abbrev pub part_by : NumberValue → (calls : ℕ) → PartValue
part_by n calls = record { index = n.number - 1; of = n.of; calls = calls }
