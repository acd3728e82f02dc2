-- The later shares are of ends that there are.
use Rattle.std.proofs.Common.{length}
use Rattle.std.proofs.lemmas.List.{take_rest}
use Rattle.hp_schedules.proofs.Trails.{at_ends_drop}
use Rattle.hp_schedules.proofs.tally.Tally.since.Goals as goal

pub returns-clause-at_ends : goal.returns-clause-at_ends
returns-clause-at_ends c =
    rw (← c.self.view_is, take_rest, c.deref.ensures.value)
    (at_ends_drop (length c.self.inside.ends.items) c.args.start c.self.inside.trail.shares.items
    c.self.invariant.3)
