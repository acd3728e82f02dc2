use Rattle.hp_trace.proofs.RunsLogged.{lines_more, none_drawn}
use Rattle.hp_trace.proofs.logs.draw_lines.Goals as goal

pub loop-line-init : goal.loop-line-init
loop-line-init c = none_drawn c.args.machine.now c.args.rows.now

pub loop-line-preserved : goal.loop-line-preserved
loop-line-preserved c =
    lines_more c.args.lines.now c.loop-line.line-index c.line-item.result c.args.machine.now
    c.loop-line.machine c.trace_work.new.machine c.args.rows.now c.loop-line.rows c.trace_work.new.rows
    c.loop-line-test.true c.line-item.is c.loop-line.invariant c.in_ok-trace_work.ensures
