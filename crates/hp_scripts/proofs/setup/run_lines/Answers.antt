use Rattle.hp_scripts.proofs.Lists.{lines_more}
use Rattle.hp_scripts.proofs.setup.run_lines.Goals as goal

pub loop-line-preserved : goal.loop-line-preserved
loop-line-preserved c =
    lines_more c.args.lines.now c.loop-line.line-index _ _ _ _ _ _ _ _ c.loop-line-test.true
    c.loop-line.invariant
    c.line-item.is c.in_ok-note_sealed.ensures c.in_ok-run_line.ensures
