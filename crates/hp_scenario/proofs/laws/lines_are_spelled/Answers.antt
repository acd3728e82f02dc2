use Rattle.hp_scenario.proofs.LineLaw.{lines_law}
use Rattle.hp_scenario.proofs.laws.lines_are_spelled.Goals as goal

pub returns : goal.returns
returns c = lines_law
