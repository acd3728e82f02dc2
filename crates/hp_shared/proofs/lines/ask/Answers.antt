use Rattle.std.proofs.Common.{[], ◌∷◌, None, Some, refl}
use Rattle.hp_shared.proofs.lines.ask.Goals as goal

pub returns-in-Ok : goal.returns-in-Ok
returns-in-Ok g c =
    let called = c.in-Ok.ensures.ok in
    record {
      gained = called.receipt ∷ [];
      fault = None;
      made = called.made;
      ran = (called.receipt, refl, refl, called.given.asked, called.replied);
    }

pub returns-in-Err : goal.returns-in-Err
returns-in-Err g c = record {
  gained = [];
  fault = Some c.in-Err.fault;
  made = (c.args.port.now, g.met.P.Port.nothing c.args.port.now, c.in-Err.ensures.leaves);
  ran = (refl, refl);
}
