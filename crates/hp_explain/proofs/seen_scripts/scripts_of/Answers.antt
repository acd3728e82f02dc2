-- One more processor.
use Rattle.std.proofs.Common.{arith}
use Rattle.hp_explain.proofs.ObjectsTaken.{filled_more}
use Rattle.hp_explain.proofs.seen_scripts.scripts_of.Goals as goal

pub loop-cpu-preserved : goal.loop-cpu-preserved
loop-cpu-preserved c =
    let pushed = rw c.reserve.ensures.items at c.push_reserved.ensures.items in
    filled_more _ _ _ _ _ _ _ _ _ c.index-scripts-cpu.result c.requires.same (omega arith)
    c.index-scripts-cpu.is (cc (c.in_ok-script.ensures.count, c.line_count.ensures))
    c.in_ok-script.ensures.filled pushed c.loop-cpu.invariant
