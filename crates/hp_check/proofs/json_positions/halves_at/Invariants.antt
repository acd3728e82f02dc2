use Rattle.std.proofs.Common.{◌+◌, ◌≤◌}
use Rattle.hp_check.proofs.json_positions.halves_at.Given as goal

abbrev pub invariant-loop-place : goal.invariant-loop-place
invariant-loop-place l = (l.here ≤ l.place + 1) × (l.passed ≤ l.place)
