use Rattle.std.proofs.Common.{Err, ap}
use Rattle.std.proofs.lemmas.Result.{on_ok_weaker}
use Rattle.hp_units.specs.declared.replies.CallFault.{CallFault}
use Rattle.hp_machine.proofs.MachineCalls.{called_once}
use Rattle.hp_trace.proofs.WorkAdded.{event_added, full_added}
use Rattle.hp_trace.proofs.calls.trace_event.Goals as goal

pub returns-in-Ok : goal.returns-in-Ok
returns-in-Ok c =
    let calls =
    called_once c.args.machine.now c.call.new.self c.args.cpu c.args.event.now c.in-Ok.receipt
    c.in-Ok.receipt c.in-Ok.ensures.full c.in-Ok.ensures.ok in
    on_ok_weaker c.draw_receipt.result (λ drawn. event_added c.args.machine.now c.call.new.self c.args.cpu
    c.args.event.now c.in-Ok.receipt c.args.asked.now c.args.rows.now c.draw_receipt.new.rows
    c.in-Ok.ensures.ok calls drawn) c.draw_receipt.ensures

pub returns-in-Err-HistoryFull : goal.returns-in-Err-HistoryFull
returns-in-Err-HistoryFull c =
    on_ok_weaker c.note.result
    (λ drawn. full_added c.args.machine.now c.call.new.self c.args.cpu c.args.event.now c.args.asked.now
    c.args.rows.now c.note.new.rows
    (c.in-Err-HistoryFull.ensures.full.0 (ap (λ (f : CallFault). Err f) c.in-Err-HistoryFull.field-0-is))
    c.in-Err-HistoryFull.ensures.err drawn) c.note.ensures
