use Rattle.std.proofs.Common.{arith}
use Rattle.std.proofs.lemmas.Grind.{common_steps}
use Rattle.hp_svg.proofs.Covering.{covered_by}
use Rattle.hp_svg.proofs.runs.runs_of.Goals as goal

pub returns : goal.returns
returns c = covered_by _ c.args.cells.now (grind (arith, common_steps))
