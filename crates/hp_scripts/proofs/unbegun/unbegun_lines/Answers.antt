use Rattle.std.proofs.Common.{◌≡◌, ◌+◌, suc, arith}
use Rattle.hp_scripts.proofs.unbegun.unbegun_lines.Goals as goal

pub loop-cpu-preserved : goal.loop-cpu-preserved
loop-cpu-preserved c =
    let cpu = c.loop-cpu.cpu in
    let more : cpu + 1 ≡ suc cpu = omega arith in
    rw (c.in_ok-push_unbegun.ensures, c.loop-cpu.invariant, more)
