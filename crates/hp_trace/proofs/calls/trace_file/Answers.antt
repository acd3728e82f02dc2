use Rattle.std.proofs.Common.{◌≡◌, Err, rules}
use Rattle.hp_text.specs.ControlFiles.{file_text}
use Rattle.hp_trace.proofs.calls.trace_file.Goals as goal

pub returns-in-Err : goal.returns-in-Err
returns-in-Err c =
    let is : file_text c.args.machine.now.layout c.args.machine.now.state c.args.path.now
    ≡ Err c.in-Err.fault = search rules in
    rw is c.note-in-Err.ensures
