use Rattle.hp_scripts.specs.Checks.{AreFit}
use Rattle.hp_scripts.proofs.checks.check_lines.Given as goal

abbrev pub invariant-loop-index : goal.invariant-loop-index
invariant-loop-index l = AreFit l.cpus l.lines l.index
