use Rattle.std.proofs.Common.{rules}
use Rattle.hp_requests.specs.Writes.{state_request}
use Rattle.hp_requests.proofs.writes.state_request.Goals as goal

pub returns-then-eq-3 : goal.returns-then-eq-3
unfolding state_request
returns-then-eq-3 c = rw c.online-then-eq-3.ensures (search rules)
