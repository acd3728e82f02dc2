use Rattle.std.proofs.Common.{refl}
use Rattle.hp_commands.proofs.Called.{called_text}
use Rattle.hp_commands.proofs.serial.calls_text.Goals as goal

pub returns : goal.returns
returns c input opened =
    called_text input c.args.calls.now c.write_calls.new.calls c.layout.result.now
    c.write_calls.new.calls.names.keys _ _ _ _ _ _ opened c.layout.ensures refl c.in_ok-machine.ensures
    c.in_ok-out.ensures (c.in_ok-write_calls.ensures c.if-not-branch.false) refl c.in_ok-write_end.ensures
