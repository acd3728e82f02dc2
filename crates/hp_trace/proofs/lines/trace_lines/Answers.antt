use Rattle.hp_trace.proofs.LinesTraced.{lines_more}
use Rattle.hp_trace.proofs.lines.trace_lines.Goals as goal

pub loop-index-preserved : goal.loop-index-preserved
loop-index-preserved c =
    lines_more c.args.view c.args.names.now.keys c.args.before c.args.lines.now c.loop-index.index
    c.index-lines-index.result c.args.machine.now c.loop-index.machine c.trace_line.new.machine
    c.args.rows.now c.loop-index.rows c.trace_line.new.rows c.loop-index-test.true c.index-lines-index.is
    c.loop-index.invariant c.in_ok-trace_line.ensures
