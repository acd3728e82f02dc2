use Rattle.std.proofs.Common.{◌*◌, ◌<◌, arith}
use Rattle.std.proofs.lemmas.Nat.{div_below}
use Rattle.hp_svg.proofs.sheets.Sheet.strip_of.Goals as goal

pub returns : goal.returns
returns c =
    let per_strip = c.per_strip-per_strip.result in
    let few : c.args.block < 18446744073709551616 * per_strip =
    omega (arith, c.per_strip-per_strip.ensures.some) in
    omega
    (arith, div_below c.args.block per_strip 18446744073709551616 c.per_strip-per_strip.ensures.some few)
