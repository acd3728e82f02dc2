use Rattle.std.proofs.Common.{◌≡◌, ◌+◌, ◌≤◌, drop, length, vec_len, vec_capacity}
use Rattle.hp_scenario.specs.Scenario.{nothing, lines_from}
use Rattle.hp_scenario.proofs.scenario.add_lines.Given as goal

abbrev pub invariant-loop-index : goal.invariant-loop-index
invariant-loop-index l =
    (lines_from (l.index + 1) (record { names = l.names.keys; lines = l.lines.items }) (drop l.index l.texts)
    ≡ lines_from 1 nothing l.texts) × (vec_len l.lines ≡ l.index) × (length l.texts ≤ vec_capacity l.lines)
