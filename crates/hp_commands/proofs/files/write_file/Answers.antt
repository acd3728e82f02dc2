use Rattle.std.proofs.Common.{string_bytes}
use Rattle.std.proofs.lemmas.Result.{on_ok_weaker}
use Rattle.hp_commands.proofs.Written.{file_written, file_fault_written, pushed}
use Rattle.hp_commands.proofs.files.write_file.Goals as goal

pub returns-in-Ok : goal.returns-in-Ok
returns-in-Ok c =
    on_ok_weaker c.push_str.result (λ grown. file_written c.memory.result.now c.args.machine.now
    c.args.path.now (string_bytes c.in-Ok.text) _ _ c.memory.ensures c.in-Ok.ensures grown)
    (pushed c.push_str.result _ _ c.as_str.result.now (string_bytes c.in-Ok.text) c.push_str.ensures.bytes
    c.as_str.ensures.value)

pub returns-in-Err : goal.returns-in-Err
returns-in-Err c =
    on_ok_weaker c.write_read_fault.result (λ grown. file_fault_written c.memory.result.now
    c.args.machine.now c.args.path.now c.in-Err.fault _ _ c.memory.ensures c.in-Err.ensures grown)
    c.write_read_fault.ensures
