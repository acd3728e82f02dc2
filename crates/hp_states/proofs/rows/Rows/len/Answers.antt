-- There is an end for each row.
use Rattle.std.proofs.Common.{ap, arith, length}
use Rattle.hp_states.proofs.Joined.{count}
use Rattle.hp_states.proofs.rows.Rows.len.Goals as goal

pub returns : goal.returns
returns c =
    omega (arith, count c.self.inside.shares.items 0 c.self.inside.ends.items, ap length c.self.view_is)
