use Rattle.std.proofs.Common.{◌≡◌, ◌+◌, ◌++◌, drop}
use Rattle.hp_svg.proofs.Covering.{runs_after, runs_from}
use Rattle.hp_svg.proofs.runs.runs_of.Given as goal

-- the runs so far, and those of the cells that are left
abbrev pub invariant-loop-mark : goal.invariant-loop-mark
invariant-loop-mark l = record {
  all : l.runs.items ++ runs_after l.run (drop l.mark-index l.rest) ≡ runs_from l.cells;
  place : l.run.at + l.run.count ≡ l.mark-index + 1;
}
