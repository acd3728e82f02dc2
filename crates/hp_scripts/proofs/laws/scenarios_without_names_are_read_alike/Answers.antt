use Rattle.hp_scripts.proofs.NamedReads.{lost, reads_plainly}
use Rattle.hp_scripts.proofs.laws.scenarios_without_names_are_read_alike.Goals as goal

pub returns-clause-read : goal.returns-clause-read
returns-clause-read c = reads_plainly

pub returns-clause-refused : goal.returns-clause-refused
returns-clause-refused c = λ bytes fault h other. lost bytes fault h (λ is. other is.0 is.1)
