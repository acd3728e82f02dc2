use Rattle.std.proofs.Common.{rules}
use Rattle.hp_scenario.specs.Form.{boots_at}
use Rattle.hp_scenario.proofs.form.boots_at.Goals as goal

pub returns-in-None : goal.returns-in-None
unfolding boots_at
returns-in-None c = search rules
