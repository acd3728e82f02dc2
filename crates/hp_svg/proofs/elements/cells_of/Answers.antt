use Rattle.std.proofs.Common.{arith}
use Rattle.std.proofs.lemmas.Nat.{mul-lt}
use Rattle.hp_svg.proofs.elements.cells_of.Goals as goal

pub returns-clause-low : goal.returns-clause-low
returns-clause-low c =
    omega (
      arith,
      mul-lt c.args.cell c.args.count 256 18446744073709551616 (omega arith) (omega arith),
    )
