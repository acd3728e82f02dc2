use Rattle.std.proofs.Common.{◌-◌, ◌*◌, ◌<◌, arith}
use Rattle.std.proofs.lemmas.Nat.{div_below}
use Rattle.hp_svg.proofs.sheets.Sheet.per_strip.Goals as goal

pub returns-clause-low : goal.returns-clause-low
returns-clause-low c =
    let width = c.block_width-width.result in
    let room : 1264 - width < 1264 * width = omega (arith, c.block_width-width.ensures.some) in
    omega (arith, div_below (1264 - width) width 1264 c.block_width-width.ensures.some room)
