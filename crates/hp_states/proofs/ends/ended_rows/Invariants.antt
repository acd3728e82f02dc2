-- The rows of the blocks so far, and room for those of all.
use Rattle.std.proofs.Common.{◌≡◌}
use Rattle.std.specs.Prelude.{vec_capacity}
use Rattle.hp_schedules.specs.Outcomes.{ended_rows_below}
use Rattle.hp_states.proofs.ends.ended_rows.Given as goal

abbrev pub invariant-loop-block : goal.invariant-loop-block
invariant-loop-block l = record {
  ended : l.rows.items ≡ ended_rows_below l.block l.memory.state;
  room : vec_capacity l.rows ≡ l.blocks;
}
