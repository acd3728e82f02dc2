use Rattle.std.proofs.Common.{rules}
use Rattle.hp_scenario.specs.Names.{line_in}
use Rattle.hp_scenario.proofs.names.line_from.Goals as goal

pub returns : goal.returns
unfolding line_in
returns c = search rules
