use Rattle.std.proofs.Common.{length}
use Rattle.hp_scenario.specs.Calls.{HasPassed}
use Rattle.hp_scenario.proofs.calls.take_all.Given as goal

abbrev pub invariant-loop-line : goal.invariant-loop-line
invariant-loop-line l = HasPassed l.initial.calls l.lines.items l.calls

abbrev pub decreases-loop-line : goal.decreases-loop-line
decreases-loop-line l = length l.calls.reader
