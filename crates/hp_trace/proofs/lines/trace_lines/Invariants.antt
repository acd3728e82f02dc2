use Rattle.std.proofs.Common.{take}
use Rattle.hp_trace.specs.Traces.{TracesLines}
use Rattle.hp_trace.proofs.lines.trace_lines.Given as goal

abbrev pub invariant-loop-index : goal.invariant-loop-index
invariant-loop-index l =
    TracesLines l.view l.names.keys l.before l.initial.machine (take l.index l.lines) l.initial.rows l.rows
    l.machine
