use Rattle.std.proofs.Common.{List, length, refl, ap, subst, sym, ◌∙◌, arith}
use Rattle.std.proofs.lemmas.Result.{IfOk-from_err}
use Rattle.hp_units.specs.declared.replies.Record.{Record}
use Rattle.hp_history.specs.Volumes.{volume_of}
use Rattle.hp_history.specs.declared.volumes.Volume.{Volume}
use Rattle.hp_machine.specs.Machine.{sealed}
use Rattle.hp_shared.specs.Shared.{IsReached, IsShared, LockedValue}
use Rattle.hp_shared.proofs.Turns.{sealed_on}
use Rattle.hp_shared.proofs.Sealing.{handed_on}
use Rattle.hp_shared.proofs.Values.{on_err}
use Rattle.hp_shared.proofs.locked.Locked.seal.Goals as goal

pub invariant_of-self-2 : goal.invariant_of-self-2
invariant_of-self-2 g c = (
  sealed_on g.L.Job.layout c.self.inside.machine c.seal.new.self c.self.inside.book.total
      c.audit.new.self.total c.self.invariant.0 c.in_ok-volume.ensures.goes_on c.audit.ensures.total,
  c.self.invariant.1,
  handed_on c.self.inside.machine c.seal.new.self c.in_ok-volume.volume c.audit-2.new.self.total
      c.as_slice.result.now (length c.as_slice.result.now) c.add.new.self.total
      (c.audit-2.ensures.total ∙ c.self.invariant.2)
      c.in_ok-volume.ensures.volume
      c.in_ok-volume.ensures.goes_on c.as_slice.ensures refl c.add.ensures.total,
  λ some. subst (IsReached g.L.Job.layout) (sym c.audit.ensures.total) (c.self.invariant.3 some),
)

pub returns-clause-kept : goal.returns-clause-kept
returns-clause-kept g c =
    sealed_on g.L.Job.layout c.self.inside.machine c.seal.new.self c.self.inside.book.total
    c.audit.new.self.total c.self.invariant.0 c.in_ok-volume.ensures.goes_on c.audit.ensures.total

pub returns-in_err-volume-clause-err : goal.returns-in_err-volume-clause-err
returns-in_err-volume-clause-err g c =
    on_err c.from_residual.result _ (
      rw (c.in_err-volume.ensures.err, c.audit.ensures.total) c.self.view_is,
      c.audit-2.ensures.amount,
    )

pub returns-in_err-volume-clause-volume : goal.returns-in_err-volume-clause-volume
returns-in_err-volume-clause-volume g c = IfOk-from_err c.from_residual.result _ c.from_residual.ensures.0

pub returns-in_err-volume-clause-goes_on : goal.returns-in_err-volume-clause-goes_on
returns-in_err-volume-clause-goes_on g c = IfOk-from_err c.from_residual.result _ c.from_residual.ensures.0

pub returns-in_err-volume-clause-total : goal.returns-in_err-volume-clause-total
returns-in_err-volume-clause-total g c =
    c.audit.ensures.total ∙ ap (λ (v : LockedValue). v.total) c.self.view_is

pub returns-in_err-volume-clause-share : goal.returns-in_err-volume-clause-share
returns-in_err-volume-clause-share g c = (c.audit.ensures.amount, c.audit.ensures.parts)

pub returns-in_err-volume-clause-within : goal.returns-in_err-volume-clause-within
returns-in_err-volume-clause-within g c =
    omega (arith, c.audit.ensures.amount, c.audit.ensures.total, c.audit.ensures.bound)

pub returns-in_err-volume-clause-shown : goal.returns-in_err-volume-clause-shown
returns-in_err-volume-clause-shown g c = subst (IsShared g.L.Job.layout) c.self.view_is c.self.invariant.0

pub returns-in_err-volume-clause-kept : goal.returns-in_err-volume-clause-kept
returns-in_err-volume-clause-kept g c =
    rw (c.in_err-volume.ensures.err, c.audit.ensures.total) c.self.invariant.0

pub returns-clause-volume : goal.returns-clause-volume
returns-clause-volume g c =
    c.in_ok-volume.ensures.volume ∙ ap (λ (v : LockedValue). volume_of v.machine) c.self.view_is

pub returns-clause-goes_on : goal.returns-clause-goes_on
returns-clause-goes_on g c =
    c.in_ok-volume.ensures.goes_on ∙ ap (λ (v : LockedValue). sealed v.machine) c.self.view_is

pub returns-clause-total : goal.returns-clause-total
returns-clause-total g c = c.audit.ensures.total ∙ ap (λ (v : LockedValue). v.total) c.self.view_is

pub returns-clause-share : goal.returns-clause-share
returns-clause-share g c = (c.audit.ensures.amount, c.audit.ensures.parts)

pub returns-clause-within : goal.returns-clause-within
returns-clause-within g c =
    omega (arith, c.audit.ensures.amount, c.audit.ensures.total, c.audit.ensures.bound)

pub returns-clause-shown : goal.returns-clause-shown
returns-clause-shown g c = subst (IsShared g.L.Job.layout) c.self.view_is c.self.invariant.0

pub returns-in_err-volume-clause-counted : goal.returns-in_err-volume-clause-counted
returns-in_err-volume-clause-counted g c = IfOk-from_err c.from_residual.result _ c.from_residual.ensures.0

pub returns-clause-counted : goal.returns-clause-counted
returns-clause-counted g c =
    omega (
      arith,
      c.add.ensures.amount,
      c.audit-2.ensures.amount,
      ap (λ (rs : List Record). length rs) c.as_slice.ensures,
    )

pub returns-in_err-volume-clause-few : goal.returns-in_err-volume-clause-few
returns-in_err-volume-clause-few g c = IfOk-from_err c.from_residual.result _ c.from_residual.ensures.0

pub returns-clause-few : goal.returns-clause-few
returns-clause-few g c =
    omega (
      arith,
      c.add.ensures.amount,
      c.audit-2.ensures.amount,
      c.audit-2.ensures.bound,
      c.self.invariant.2,
      c.last_serial.ensures,
      ap (λ (rs : List Record). length rs) c.as_slice.ensures,
      ap (λ (v : Volume). length v.records) c.in_ok-volume.ensures.volume,
    )

pub returns-clause-parts : goal.returns-clause-parts
returns-clause-parts g c = c.add.ensures.parts ∙ c.audit-2.ensures.parts
