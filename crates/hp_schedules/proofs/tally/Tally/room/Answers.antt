-- What is counted and the room make up the limit.
use Rattle.std.proofs.Common.{arith}
use Rattle.hp_schedules.proofs.tally.Tally.room.Goals as goal

pub returns : goal.returns
returns c =
    rw (← c.self.view_is) (omega (arith, c.self.invariant.0, c.self.invariant.1))
