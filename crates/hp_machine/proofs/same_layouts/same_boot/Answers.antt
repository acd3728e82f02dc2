-- Lists that are as long and the same at each block are the same.
use Rattle.std.proofs.Common.{arith}
use Rattle.std.proofs.lemmas.List.{ext_get_or}
use Rattle.hp_units.specs.declared.rows.Boot.TheVariants.{Offline}
use Rattle.hp_machine.proofs.same_layouts.same_boot.Goals as goal

pub returns : goal.returns
returns c =
    ext_get_or Offline c.args.boot.now c.args.others.now (omega arith)
    (λ k h. c.loop-block.invariant k (omega arith))
