-- Before its first call nothing was tried.
use Rattle.std.proofs.Common.{refl, sym}
use Rattle.std.proofs.Math.Nat.{sub-zero}
use Rattle.hp_ops.proofs.stages.Driver.new.Goals as goal

pub returns : goal.returns
returns c = record {
  processors = refl;
  left = sym (sub-zero c.args.turns);
  why = refl;
  next = λ plan. refl;
  end = refl;
}
