use Rattle.hp_states.proofs.Coded.{coded_states_are_same}
use Rattle.hp_states.proofs.laws.codes_tell_states_apart.Goals as goal

pub returns : goal.returns
returns c = coded_states_are_same
