use Rattle.std.proofs.Common.{take}
use Rattle.hp_trace.specs.Logs.{AreLinesDrawn}
use Rattle.hp_trace.proofs.logs.draw_lines.Given as goal

abbrev pub invariant-loop-line : goal.invariant-loop-line
invariant-loop-line l =
    AreLinesDrawn l.initial.machine (take l.line-index l.lines) l.initial.rows l.rows l.machine
