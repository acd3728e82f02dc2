use Rattle.std.proofs.Common.{◌≤◌, arith}
use Rattle.std.proofs.Math.Nat.{mul-le-mul_left}
use Rattle.hp_svg.proofs.sheets.Sheet.cells_width.Goals as goal

pub returns : goal.returns
returns c =
    let wide : c.args.self.now.cell ≤ 255 = omega arith in
    omega (arith, mul-le-mul_left c.args.self.now.cells wide)
