use Rattle.std.proofs.Common.{◌≡◌, take}
use Rattle.hp_trace.proofs.snapshots.rows_of.Given as goal

abbrev pub invariant-loop-number : goal.invariant-loop-number
invariant-loop-number l = l.rows.items ≡ take l.number l.machine.state.blocks.rows
