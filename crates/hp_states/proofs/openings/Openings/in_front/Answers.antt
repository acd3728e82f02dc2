-- The list has the number of an entry that is found, or of one that is added.
use Rattle.std.proofs.Common.{length, ap, arith}
use Rattle.hp_states.specs.Numbered.{entry_below, in_front}
use Rattle.hp_states.proofs.Numbered.{front_added}
use Rattle.hp_states.proofs.Numberings.{keep_added, stand_added}
use Rattle.hp_states.proofs.openings.Openings.in_front.Goals as goal

pub invariant_of-self : goal.invariant_of-self
invariant_of-self c = rw c.reserve.ensures.items c.self.invariant

pub invariant_of-self-in_err-learn : goal.invariant_of-self-in_err-learn
invariant_of-self-in_err-learn c = rw c.reserve.ensures.items c.self.invariant

pub invariant_of-self-2 : goal.invariant_of-self-2
invariant_of-self-2 c =
    stand_added entry_below in_front _ _ _ (rw c.reserve.ensures.items at c.push_reserved.ensures.items)
    c.self.invariant (rw c.self.view_is c.requires)

pub returns-clause-kept : goal.returns-clause-kept
returns-clause-kept c =
    rw (← c.self.view_is)
    (keep_added entry_below in_front _ _ _ (rw c.reserve.ensures.items at c.push_reserved.ensures.items))

pub returns-clause-ok : goal.returns-clause-ok
returns-clause-ok c =
    rw (← c.self.view_is)
    (front_added _ _ _ _ (rw c.reserve.ensures.items at c.push_reserved.ensures.items)
    (omega (arith, c.len-number.ensures, ap length c.reserve.ensures.items)))
