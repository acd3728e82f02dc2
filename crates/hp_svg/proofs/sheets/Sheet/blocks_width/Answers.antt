use Rattle.std.proofs.Common.{arith}
use Rattle.std.proofs.lemmas.Nat.{mul-lt}
use Rattle.hp_svg.proofs.sheets.Sheet.blocks_width.Goals as goal

pub overflow_mul-all : goal.overflow_mul-all
overflow_mul-all c =
    omega (
      arith,
      mul-lt c.args.count c.block_width-width.result 18446744073709551616 2199023255552 c.requires
          c.block_width-width.ensures.low,
    )

pub returns : goal.returns
returns c =
    omega (
      arith,
      mul-lt c.args.count c.block_width-width.result 18446744073709551616 2199023255552 c.requires
          c.block_width-width.ensures.low,
    )
