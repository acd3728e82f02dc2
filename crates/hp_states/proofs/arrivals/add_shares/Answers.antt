-- The shares fit in the room that is left.
use Rattle.std.proofs.Common.{arith}
use Rattle.hp_states.proofs.arrivals.add_shares.Goals as goal

pub add-requires-clause-room : goal.add-requires-clause-room
add-requires-clause-room o c =
    omega (arith, c.room.ensures, c.fit_in.ensures.0 c.if-not-fit_in.false)
