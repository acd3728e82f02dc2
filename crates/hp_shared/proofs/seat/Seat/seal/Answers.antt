use Rattle.std.proofs.Common.{◌∙◌, ap, sym}
use Rattle.std.proofs.lemmas.Result.{IfOk-from_err}
use Rattle.hp_shared.specs.Shared.{SeatValue}
use Rattle.hp_shared.specs.Volumes.{sealed_by}
use Rattle.hp_shared.proofs.Values.{on_err}
use Rattle.hp_shared.proofs.seat.Seat.seal.Goals as goal

pub returns-clause-ok : goal.returns-clause-ok
returns-clause-ok g c =
    rw (sym c.self.view_is)
    (rw (← c.self.invariant.2, ← c.seal.ensures.share.0) c.in_ok-volume.ensures.ok)

pub returns-clause-seat : goal.returns-clause-seat
returns-clause-seat g c =
    rw c.in_ok-volume.ensures.counted
    (ap (λ (seat : SeatValue). sealed_by seat c.in_ok-volume.volume) c.self.view_is)

pub returns-in_err-volume-clause-ok : goal.returns-in_err-volume-clause-ok
returns-in_err-volume-clause-ok g c = IfOk-from_err c.from_residual.result _ c.from_residual.ensures.0

pub returns-in_err-volume-clause-err : goal.returns-in_err-volume-clause-err
returns-in_err-volume-clause-err g c =
    on_err c.from_residual.result _
    (rw c.in_err-volume.ensures.err c.self.view_is)

pub invariant_of-self : goal.invariant_of-self
invariant_of-self g c = (
  c.self.invariant.0,
  c.seal.ensures.share.1 ∙ c.self.invariant.1,
  c.seal.ensures.share.0 ∙ c.self.invariant.2,
  c.seal.ensures.parts ∙ c.self.invariant.3,
  c.in_err-volume.ensures.err ∙ c.self.invariant.4,
  c.self.invariant.5,
)

pub invariant_of-self-2 : goal.invariant_of-self-2
invariant_of-self-2 g c = (
  c.self.invariant.0,
  c.seal.ensures.share.1 ∙ c.self.invariant.1,
  c.seal.ensures.share.0 ∙ c.self.invariant.2,
  c.seal.ensures.parts ∙ c.self.invariant.3,
  rw (c.in_ok-volume.ensures.counted, c.self.invariant.4, ← c.as_slice.ensures),
  c.self.invariant.5,
)
