use Rattle.std.proofs.Common.{arith}
use Rattle.hp_plain.proofs.PlacedRows.{all_rows}
use Rattle.hp_plain.proofs.rows.are_rows.Goals as goal

pub returns : goal.returns
returns c = all_rows c.args.rows.now c.loop-row.row-index (omega arith) c.loop-row.invariant
