use Rattle.hp_scripts.proofs.LineResults.{named_call}
use Rattle.hp_scripts.proofs.start_laws.names_are_results.Goals as goal

pub returns : goal.returns
returns c = named_call
