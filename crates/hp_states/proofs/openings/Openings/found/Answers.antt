-- The entry that is found has the operation, the state and the earlier list.
use Rattle.std.proofs.Common.{◌≡◌}
use Rattle.hp_states.proofs.openings.Openings.found.Goals as goal

pub returns-then-entry-state : goal.returns-then-entry-state
returns-then-entry-state c =
    let made = c.in-Some-entry.ensures.some in
    λ os here. let same : made.0 ≡ os = cc (made.1, c.if-entry-below.true, here) in
    rw (← c.if-entry-op.true, ← c.if-entry-state.true, ← same) made.2
