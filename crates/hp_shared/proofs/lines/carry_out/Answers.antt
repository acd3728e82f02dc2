use Rattle.std.proofs.Common.{[], None, refl, inr}
use Rattle.hp_shared.proofs.lines.carry_out.Goals as goal

pub returns-in-Err : goal.returns-in-Err
returns-in-Err g c = record {
  gained = [];
  fault = None;
  made = g.met.P.Port.nothing c.args.port.now;
  ran = inr (record { receipts = refl; none = refl; left = refl });
}
