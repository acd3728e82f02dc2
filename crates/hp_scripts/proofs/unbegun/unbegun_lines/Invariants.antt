use Rattle.std.proofs.Common.{◌≡◌}
use Rattle.hp_scripts.specs.Unbegun.{unbegun_lines}
use Rattle.hp_scripts.proofs.unbegun.unbegun_lines.Given as goal

abbrev pub invariant-loop-cpu : goal.invariant-loop-cpu
invariant-loop-cpu l = l.found.items ≡ unbegun_lines l.cpu l.setup l.lines
