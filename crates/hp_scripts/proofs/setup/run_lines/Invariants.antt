use Rattle.std.proofs.Common.{take}
use Rattle.hp_scripts.specs.Setup.{RunsLines}
use Rattle.hp_scripts.proofs.setup.run_lines.Given as goal

abbrev pub invariant-loop-line : goal.invariant-loop-line
invariant-loop-line l =
    RunsLines l.initial.machine l.initial.begins.items (take l.line-index l.lines) l.machine l.begins.items
