use Rattle.std.proofs.Common.{◌≡◌, ◌+◌, ◌-◌, ◌≤◌, length, drop}
use Rattle.std.specs.List.{prefix_len}
use Rattle.json.specs.Run.{is_plain}
use Rattle.hp_scenario.proofs.plain_runs.plain_end_slowly.Given as goal

abbrev pub invariant-loop-i : goal.invariant-loop-i
invariant-loop-i l =
    (l.from + prefix_len is_plain (drop l.from l.text) ≡ l.i + prefix_len is_plain (drop l.i l.text))
    × (l.i ≤ length l.text)

abbrev pub decreases-loop-i : goal.decreases-loop-i
decreases-loop-i l = length l.text - l.i
