use Rattle.hp_trace.proofs.RowsJoined.{nothing_shown}
use Rattle.hp_trace.proofs.rows.Rows.show.Goals as goal

pub returns-in-None : goal.returns-in-None
returns-in-None c = nothing_shown c.args.entry c.args.self.now c.in-None.is
