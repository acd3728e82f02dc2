use Rattle.std.proofs.Common.{◌≡◌}
use Rattle.hp_scripts.specs.Scripts.{scripts_of}
use Rattle.hp_scripts.proofs.scripts.scripts_of.Given as goal

abbrev pub invariant-loop-cpu : goal.invariant-loop-cpu
invariant-loop-cpu l = l.scripts.items ≡ scripts_of l.cpu l.begins l.lines l.sources
