use Rattle.std.proofs.Common.{ℕ, subst}
use Rattle.hp_shared.specs.declared.closing.CloseFault.TheVariants.{SeatMissing, WrongVolume, Mismatch, OutOfMemory}
use Rattle.hp_shared.specs.Comparing.{IsCompared}
use Rattle.hp_shared.specs.Volumes.{IsWrongAt, ReachSealed, all_records}
use Rattle.hp_shared.proofs.Closings.{checked_here, fault_here}
use Rattle.hp_shared.proofs.Sealing.{counted_all}
use Rattle.hp_shared.proofs.locked.Locked.check.Goals as goal

pub returns-in-Ok-None-clause-ok : goal.returns-in-Ok-None-clause-ok
returns-in-Ok-None-clause-ok g c =
    let m = c.machine-machine.result.now in
    let seats = c.args.seats.now.items in
    let volumes = c.args.volumes.now.items in
    let reach = subst (ReachSealed volumes) c.sealed.ensures c.in_default.ensures.right in
    checked_here g.L.Job.layout c.args.self.now m c.cpus.result c.last_serial.result seats volumes
    c.machine-machine.ensures.machine c.cpus.ensures.is (record {
      each = c.has_each.ensures.each c.if-not-has_each.false;
      reach = reach;
      settled = subst (IsCompared (all_records volumes m) seats) c.in-Ok-None.field-0-is c.in-Ok-None.ensures;
      records = counted_all volumes m c.last_serial.result reach c.last_serial.ensures;
    })

pub returns-in-Ok-Some-clause-err : goal.returns-in-Ok-Some-clause-err
returns-in-Ok-Some-clause-err g c =
    let m = c.machine-machine.result.now in
    let seats = c.args.seats.now.items in
    let volumes = c.args.volumes.now.items in
    fault_here g.L.Job.layout c.args.self.now m c.cpus.result seats volumes (Mismatch c.in-Ok-Some.serial)
    c.machine-machine.ensures.machine c.cpus.ensures.is (
      c.has_each.ensures.each c.if-not-has_each.false,
      subst (ReachSealed volumes) c.sealed.ensures c.in_default.ensures.right,
      subst (IsCompared (all_records volumes m) seats) c.in-Ok-Some.field-0-is c.in-Ok-Some.ensures,
    )

pub returns-in-Err-clause-err : goal.returns-in-Err-clause-err
returns-in-Err-clause-err g c =
    let volumes = c.args.volumes.now.items in
    fault_here g.L.Job.layout c.args.self.now c.machine-machine.result.now c.cpus.result
    c.args.seats.now.items volumes OutOfMemory c.machine-machine.ensures.machine c.cpus.ensures.is (
      c.has_each.ensures.each c.if-not-has_each.false,
      subst (ReachSealed volumes) c.sealed.ensures c.in_default.ensures.right,
    )

pub returns-in-Some-clause-err : goal.returns-in-Some-clause-err
returns-in-Some-clause-err g c =
    let volumes = c.args.volumes.now.items in
    fault_here g.L.Job.layout c.args.self.now c.machine-machine.result.now c.cpus.result
    c.args.seats.now.items volumes (WrongVolume c.in-Some.at) c.machine-machine.ensures.machine
    c.cpus.ensures.is (
      c.has_each.ensures.each c.if-not-has_each.false,
      subst (λ (n : ℕ). IsWrongAt volumes n c.in-Some.at) c.sealed.ensures c.in-Some.ensures.wrong,
    )

pub returns-then-not-has_each-clause-err : goal.returns-then-not-has_each-clause-err
returns-then-not-has_each-clause-err g c =
    fault_here g.L.Job.layout c.args.self.now c.machine-machine.result.now c.cpus.result
    c.args.seats.now.items c.args.volumes.now.items SeatMissing
    c.machine-machine.ensures.machine c.cpus.ensures.is
    (c.has_each.ensures.missing c.if-not-has_each.true)

pub returns-in-Some-clause-ok : goal.returns-in-Some-clause-ok
returns-in-Some-clause-ok g c = tt

pub returns-in-Ok-Some-clause-ok : goal.returns-in-Ok-Some-clause-ok
returns-in-Ok-Some-clause-ok g c = tt

pub returns-then-not-has_each-clause-shown : goal.returns-then-not-has_each-clause-shown
returns-then-not-has_each-clause-shown g c = c.machine-machine.ensures.kept

pub returns-in-Ok-None-clause-shown : goal.returns-in-Ok-None-clause-shown
returns-in-Ok-None-clause-shown g c = c.machine-machine.ensures.kept

pub returns-in-Err-clause-shown : goal.returns-in-Err-clause-shown
returns-in-Err-clause-shown g c = c.machine-machine.ensures.kept
