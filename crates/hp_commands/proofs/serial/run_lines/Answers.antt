use Rattle.std.proofs.Common.{string_bytes}
use Rattle.std.proofs.lemmas.Result.{IfOk-weaker}
use Rattle.hp_machine.specs.Machine.{booted}
use Rattle.hp_commands.proofs.Lines.{image_left}
use Rattle.hp_commands.proofs.serial.run_lines.Goals as goal

pub returns : goal.returns
returns c =
    IfOk-weaker c.image.result _ _ (λ image is. image_left (string_bytes c.args.out.now)
    (string_bytes c.write_lines.new.out) (booted c.args.layout.now) c.in_ok-machine.machine
    c.write_lines.new.machine c.args.lines c.as_slice-2.result.now image c.in_ok-machine.ensures
    c.as_slice-2.ensures c.in_ok-write_lines.ensures is) c.image.ensures
