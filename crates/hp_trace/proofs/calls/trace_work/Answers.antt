use Rattle.std.proofs.Common.{sym}
use Rattle.std.proofs.lemmas.Result.{on_ok_weaker}
use Rattle.hp_trace.proofs.WorkAdded.{untaken_added}
use Rattle.hp_trace.proofs.calls.trace_work.Goals as goal

pub returns-in-NotTaken : goal.returns-in-NotTaken
returns-in-NotTaken c =
    rw (sym c.asked.ensures, c.in-NotTaken.is) (on_ok_weaker c.note.result (λ drawn. untaken_added
    c.args.machine.now c.args.cpu c.in-NotTaken.fault c.args.asked.now c.args.rows.now c.note.new.rows
    drawn) c.note.ensures)
