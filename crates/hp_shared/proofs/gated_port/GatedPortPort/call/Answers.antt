use Rattle.std.proofs.Common.{Err, ap, refl}
use Rattle.hp_units.specs.declared.replies.CallFault.{CallFault}
use Rattle.hp_shared.proofs.SeatCalls.{seated_is_given, turned_once}
use Rattle.hp_shared.proofs.gated_port.GatedPortPort.call.Goals as goal

pub returns-in-Ok-clause-ok : goal.returns-in-Ok-clause-ok
returns-in-Ok-clause-ok g c =
    let called = c.in-Ok.ensures.ok in
    record {
      receipt = called.receipt;
      replied = called.replied;
      given =
          seated_is_given g.L.Job.layout c.args.self.now.seat.now c.call-answer.new.self c.args.event.now
          called.receipt c.args.self.now.fault called.seated;
      made = (
        refl,
        turned_once g.L.Job.layout c.args.self.now.seat.now c.call-answer.new.self c.args.event.now
            called.receipt called.seated,
      );
    }

pub returns-in-Err-clause-leaves : goal.returns-in-Err-clause-leaves
returns-in-Err-clause-leaves g c = (
  refl,
  c.in-Err.ensures.err,
  λ is. c.in-Err.ensures.only (ap (λ (f : CallFault). Err f) is),
)
