use Rattle.std.proofs.Common.{[], None, refl}
use Rattle.hp_shared.proofs.lines.run_asked.Goals as goal

pub returns-in-NotTaken : goal.returns-in-NotTaken
returns-in-NotTaken g c = record {
  gained = [];
  fault = None;
  made = g.met.P.Port.nothing c.args.port.now;
  ran = rw c.in-NotTaken.is (refl, refl, refl);
}

pub returns-in-Event : goal.returns-in-Event
returns-in-Event g c = rw c.in-Event.is c.ask.ensures

pub returns-in-Plan : goal.returns-in-Plan
returns-in-Plan g c = rw c.in-Plan.is c.carry_out.ensures
