use Rattle.std.proofs.Common.{◌≡◌, ◌+◌, ◌≤◌, count_by, take}
use Rattle.hp_check.specs.JsonPositions.{AreSignLines, is_newline}
use Rattle.hp_check.proofs.json_positions.call_lines.Given as goal

abbrev pub invariant-loop-place : goal.invariant-loop-place
invariant-loop-place l =
    (l.walk.depth ≤ l.place) × (l.line ≤ l.place + 1)
    × AreSignLines l.input l.walk.lines.items × (l.line ≡ 1 + count_by is_newline (take l.place l.input))
