-- The operation stands in front of the earlier list.
use Rattle.hp_states.proofs.openings.Openings.after_begin.Goals as goal

pub returns-clause-ok : goal.returns-clause-ok
returns-clause-ok c =
    (c.in-Some.below, c.in-Some-from.from, c.in-Some.is, c.in-Some-from.is, c.in_ok-number.ensures.ok)
