-- The event and the reply are the record's.
use Rattle.hp_states.proofs.Exchanged.{exchange_same}
use Rattle.hp_states.proofs.exchanges.Exchange.is_of.Goals as goal

pub returns-then-same : goal.returns-then-same
returns-then-same c =
    λ told. exchange_same c.args.self.now c.args.latest.now (c.same.ensures.0 c.if-same.true)
    (c.same-then-same.ensures.0 told)
