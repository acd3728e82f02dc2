use Rattle.std.proofs.Common.{ℕ, ◌<◌}
use Rattle.hp_units.specs.Placement.{kind_at, row_at}
use Rattle.hp_plain.specs.Placing.{IsKind}
use Rattle.hp_plain.proofs.rows.are_kinds.Given as goal

abbrev pub invariant-loop-number : goal.invariant-loop-number
invariant-loop-number l = (k : ℕ) → k < l.number
    → IsKind (kind_at l.kinds k) (row_at l.layout l.rows k)
