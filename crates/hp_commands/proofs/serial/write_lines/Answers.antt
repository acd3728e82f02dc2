use Rattle.std.proofs.Common.{string_bytes}
use Rattle.hp_commands.proofs.Lines.{lines_none, lines_more}
use Rattle.hp_commands.proofs.serial.write_lines.Goals as goal

pub loop-line-init : goal.loop-line-init
loop-line-init c = lines_none c.args.machine.now c.args.lines.now (string_bytes c.args.out.now)

pub loop-line-preserved : goal.loop-line-preserved
loop-line-preserved c =
    lines_more c.args.lines.now c.loop-line.line-index _ _ _ _ _ _ _ c.loop-line-test.true
    c.loop-line.invariant c.line-item.is c.in_ok-write_line.ensures
