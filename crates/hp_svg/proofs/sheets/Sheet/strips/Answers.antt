use Rattle.std.proofs.Common.{◌-◌, ◌*◌, ◌<◌, arith}
use Rattle.std.proofs.lemmas.Nat.{div_below}
use Rattle.hp_svg.proofs.sheets.Sheet.strips.Goals as goal

pub returns-clause-low : goal.returns-clause-low
returns-clause-low c =
    let per_strip = c.per_strip-per_strip.result in
    let few : c.args.self.now.blocks - 1 < 4294967295 * per_strip =
    omega (arith, c.per_strip-per_strip.ensures.some) in
    omega (
      arith,
      div_below (c.args.self.now.blocks - 1) per_strip 4294967295 c.per_strip-per_strip.ensures.some few,
    )
