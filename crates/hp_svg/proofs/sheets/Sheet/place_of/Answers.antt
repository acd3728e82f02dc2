use Rattle.std.proofs.Common.{arith}
use Rattle.std.proofs.lemmas.Nat.{mod_below}
use Rattle.hp_svg.proofs.sheets.Sheet.place_of.Goals as goal

pub returns : goal.returns
returns c =
    omega (
      arith,
      mod_below c.args.block c.per_strip-per_strip.result c.per_strip-per_strip.ensures.some,
      c.per_strip-per_strip.ensures.low,
    )
