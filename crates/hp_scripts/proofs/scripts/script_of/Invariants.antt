use Rattle.std.proofs.Common.{◌≡◌, ◌++◌, drop, false}
use Rattle.hp_scripts.specs.Scripts.{steps_in}
use Rattle.hp_scripts.proofs.scripts.script_of.Given as goal

abbrev pub invariant-loop-place : goal.invariant-loop-place
invariant-loop-place l =
    l.steps.items ++ steps_in l.cpu l.op l.has_begun l.lines l.sources l.place (drop l.place l.lines)
    ≡ steps_in l.cpu l.op false l.lines l.sources 0 l.lines
