use Rattle.hp_requests.proofs.PathSpelled.{paths_law}
use Rattle.hp_requests.proofs.laws.block_paths_are_spelled.Goals as goal

pub returns : goal.returns
returns c = paths_law
