use Rattle.std.proofs.Common.{ap}
use Rattle.std.proofs.lemmas.Result.{on_ok_weaker}
use Rattle.hp_trace.proofs.WorkAdded.{seal_added}
use Rattle.hp_trace.proofs.calls.trace_seal.Goals as goal

pub returns : goal.returns
returns c =
    rw (← c.set_sealed.ensures) (on_ok_weaker c.note.result
    (λ drawn. seal_added c.args.machine.now c.seal.new.self c.in_ok-volume.volume.records
    c.as_slice.result.now c.args.asked.now c.set_sealed.new.self c.note.new.rows
    c.in_ok-volume.ensures.goes_on c.as_slice.ensures (ap (λ v. v.records) c.in_ok-volume.ensures.volume)
    drawn) c.note.ensures)
