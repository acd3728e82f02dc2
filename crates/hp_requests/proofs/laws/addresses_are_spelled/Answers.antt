use Rattle.hp_requests.proofs.AddressSpelled.{addresses_law}
use Rattle.hp_requests.proofs.laws.addresses_are_spelled.Goals as goal

pub returns : goal.returns
returns c = addresses_law
