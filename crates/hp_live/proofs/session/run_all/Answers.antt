use Rattle.hp_live.proofs.Resumed.{more_run, none_run}
use Rattle.hp_live.proofs.session.run_all.Goals as goal

pub loop-line-init : goal.loop-line-init
loop-line-init c = none_run c.args.machine.now c.args.lines.now

pub loop-line-preserved : goal.loop-line-preserved
loop-line-preserved c =
    more_run c.args.lines.now c.loop-line.line-index _ _ _ _ _ c.loop-line-test.true c.loop-line.invariant
    c.line-item.is c.in_ok-answer_line.ensures.ok.0
