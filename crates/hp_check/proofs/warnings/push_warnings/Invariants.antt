use Rattle.std.proofs.Common.{length}
use Rattle.std.specs.List.{All}
use Rattle.hp_check.specs.Adds.{IsWarning}
use Rattle.hp_check.proofs.warnings.push_warnings.Given as goal

abbrev pub invariant-loop-index : goal.invariant-loop-index
invariant-loop-index l = All (IsWarning (length l.lines)) l.found.items
