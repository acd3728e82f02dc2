use Rattle.hp_machine.proofs.MachineCalls.{cause_of}
use Rattle.hp_live.proofs.Called.{event_recorded, event_unrecorded}
use Rattle.hp_live.proofs.runs.call.Goals as goal

pub returns-in-Ok : goal.returns-in-Ok
returns-in-Ok c =
    event_recorded c.args.machine.now c.answer.new.self c.args.cpu c.args.event.now c.in-Ok.answer
    c.in-Ok.ensures.full c.in-Ok.ensures.ok

pub returns-in-Err : goal.returns-in-Err
returns-in-Err c =
    event_unrecorded c.args.machine.now c.answer.new.self c.args.cpu c.args.event.now c.in-Err.fault
    (cause_of c.args.machine.now c.in-Err.fault c.in-Err.ensures.full) c.in-Err.ensures.err
