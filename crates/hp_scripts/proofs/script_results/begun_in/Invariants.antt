-- The lines so far are counted.
use Rattle.std.proofs.Common.{◌≡◌, ◌≤◌, take}
use Rattle.std.specs.List.{count_by}
use Rattle.hp_scripts.specs.Begins.{line_begins}
use Rattle.hp_scripts.proofs.script_results.begun_in.Given as goal

abbrev pub invariant-loop-line : goal.invariant-loop-line
invariant-loop-line l =
    (l.count ≡ count_by (line_begins l.cpu) (take l.line-index l.lines)) × (l.count ≤ l.line-index)
