-- The ends are those of all complete schedules, or of the first ones.
use Rattle.std.proofs.Common.{string_bytes}
use Rattle.std.proofs.lemmas.Result.{err_from_is_err_and}
use Rattle.hp_parts.proofs.Explorations.{is_explored}
use Rattle.hp_parts.proofs.exploring.explored.Goals as goal

pub returns-clause-ok : goal.returns-clause-ok
returns-clause-ok g c =
    let h = c.in_ok-explored.ensures in
    let f = c.in-Ok.finding in
    let s = c.in_ok-shown.ensures in
    is_explored c.args.form c.args.by c.args.prepared.now c.as_slice-scripts.result.now c.args.limit _
    c.in_ok-explored.explored c.in_ok-shown.shown (string_bytes f.text) f.is_found
    c.cpus-processors.result
    (rw c.layout.ensures at c.cpus-processors.ensures.is)
    c.as_slice-scripts.ensures.value h.ok h.few h.room h.first h.many h.stopped
    h.ordered h.within s.ends s.whole
    c.in-Ok.ensures.ok

pub returns-in_err-explored-clause-err : goal.returns-in_err-explored-clause-err
returns-in_err-explored-clause-err g c =
    let p = err_from_is_err_and c.from_residual.result c.from_residual.ensures.1 in
    rw (p.1, p.2) (rw c.as_slice-scripts.ensures.value at c.in_err-explored.ensures.full)
