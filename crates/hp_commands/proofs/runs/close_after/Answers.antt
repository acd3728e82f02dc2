use Rattle.std.proofs.Common.{◌≡◌, None, Some, refl}
use Rattle.hp_shared.specs.Shared.{first_seats}
use Rattle.hp_commands.proofs.Ran.{all_ran, unclosed, unstarted, worked_off}
use Rattle.hp_commands.proofs.runs.close_after.Goals as goal

pub returns-in-Some-clause-err : goal.returns-in-Some-clause-err
returns-in-Some-clause-err g c =
    let end = c.args.end in
    let is : end.fault ≡ Some c.in-Some.fault = c.in-Some.is in
    rw (c.from.ensures)
    (λ scripts run count. unstarted g.L.Job.layout (first_seats g.L.Job.layout.cpus) scripts end.seats.items
    end.volumes.items end.ends.items end.fault c.in-Some.fault refl is count run)

pub returns-in-Err-clause-err : goal.returns-in-Err-clause-err
returns-in-Err-clause-err g c =
    let l = g.L.Job.layout in
    let end = c.args.end in
    let none : end.fault ≡ None = c.in_default.is in
    rw (c.from-in-Err.ensures)
    (λ scripts run count. unclosed l scripts end.seats.items end.ends.items end.volumes.items
    c.in-Err.refused.fault count (all_ran l (first_seats l.cpus) scripts end.seats.items end.volumes.items
    end.ends.items end.fault refl none run) c.in-Err.ensures.err)

pub returns-in-Ok-clause-ok : goal.returns-in-Ok-clause-ok
returns-in-Ok-clause-ok g c scripts run =
    let l = g.L.Job.layout in
    let end = c.args.end in
    let none : end.fault ≡ None = c.in_default.is in
    worked_off l scripts end.seats.items end.volumes.items c.in-Ok.closed.volumes.items end.ends.items
    c.in-Ok.closed.machine c.in-Ok.closed.records (all_ran l (first_seats l.cpus) scripts end.seats.items
    end.volumes.items end.ends.items end.fault refl none run) c.in-Ok.ensures.volumes c.in-Ok.ensures.ok
    c.begins_at_boot.ensures

pub returns-in-Some-clause-ok : goal.returns-in-Some-clause-ok
returns-in-Some-clause-ok g c = tt
