use Rattle.std.proofs.Common.{◌≡◌, List, length, refl, subst, sym}
use Rattle.hp_shared.specs.Closing.{AreCounted, IsClosed}
use Rattle.hp_shared.specs.Shared.{SeatValue}
use Rattle.hp_shared.proofs.Closings.{closed}
use Rattle.hp_shared.proofs.locked.Locked.close.Goals as goal

pub returns-in-Ok-clause-ok : goal.returns-in-Ok-clause-ok
returns-in-Ok-clause-ok g c =
    let l = g.L.Job.layout in
    let volumes = c.args.volumes.items in
    let m = c.into_machine.result in
    let counted =
    subst (λ (seats : List SeatValue). length seats ≡ l.cpus → AreCounted l seats c.audit_all.new.locked)
    (sym c.audit_all.ensures.seats) (λ each. subst (AreCounted l c.args.seats.items)
    (sym c.audit_all.ensures.locked) (c.audit_all.ensures.all each)) in
    subst (λ (seats : List SeatValue). IsClosed l seats volumes m c.in-Ok.records) c.audit_all.ensures.seats
    (closed l c.audit_all.new.locked m c.in-Ok.records c.audit_all.new.seats.items volumes
    c.check.ensures.shown c.into_machine.ensures counted c.in-Ok.ensures.ok)

pub returns-in-Ok-clause-machine : goal.returns-in-Ok-clause-machine
returns-in-Ok-clause-machine g c = rw (c.into_machine.ensures, c.audit_all.ensures.locked)

pub returns-in-Ok-clause-shown : goal.returns-in-Ok-clause-shown
returns-in-Ok-clause-shown g c = rw (← c.audit_all.ensures.locked) c.check.ensures.shown

pub returns-in-Err-clause-back : goal.returns-in-Err-clause-back
returns-in-Err-clause-back g c = (c.audit_all.ensures.seats, refl)

pub returns-in-Err-clause-err : goal.returns-in-Err-clause-err
returns-in-Err-clause-err g c =
    let l = g.L.Job.layout in
    let volumes = c.args.volumes.items in
    rw (← c.audit_all.ensures.locked, ← c.audit_all.ensures.seats) c.in-Err.ensures.err

pub returns-in-Err-clause-shown : goal.returns-in-Err-clause-shown
returns-in-Err-clause-shown g c = rw (← c.audit_all.ensures.locked) c.check.ensures.shown
