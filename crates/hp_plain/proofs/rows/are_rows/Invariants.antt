use Rattle.std.proofs.Common.{ℕ, ◌<◌, get_or}
use Rattle.hp_units.specs.Memory.{offline_row}
use Rattle.hp_units.specs.Placement.{IsRow}
use Rattle.hp_plain.proofs.rows.are_rows.Given as goal

abbrev pub invariant-loop-row : goal.invariant-loop-row
invariant-loop-row l = (k : ℕ) → k < l.row-index → IsRow (get_or l.rows k offline_row)
