-- The chain has the number of an entry that is found, or of one that is added.
use Rattle.std.proofs.Common.{length, ap, refl, arith}
use Rattle.hp_states.specs.Exchanges.{at_end, exchange_below}
use Rattle.hp_states.specs.declared.exchanges.Exchange.{Exchange}
use Rattle.hp_states.proofs.Exchanged.{chained_added, exchange_same}
use Rattle.hp_states.proofs.Numberings.{keep_added, stand_added}
use Rattle.hp_states.proofs.exchanges.Chains.after.Goals as goal

pub invariant_of-self : goal.invariant_of-self
invariant_of-self c = rw c.reserve.ensures.items c.self.invariant

pub invariant_of-self-in_err-learn : goal.invariant_of-self-in_err-learn
invariant_of-self-in_err-learn c = rw c.reserve.ensures.items c.self.invariant

pub invariant_of-self-in_err-event : goal.invariant_of-self-in_err-event
invariant_of-self-in_err-event c = rw c.reserve.ensures.items c.self.invariant

pub invariant_of-self-2 : goal.invariant_of-self-2
invariant_of-self-2 c =
    stand_added exchange_below at_end _ _ _ (rw c.reserve.ensures.items at c.push_reserved.ensures.items)
    c.self.invariant (rw c.self.view_is c.requires)

pub returns-clause-kept : goal.returns-clause-kept
returns-clause-kept c =
    rw (← c.self.view_is)
    (keep_added exchange_below at_end _ _ _
    (rw c.reserve.ensures.items at c.push_reserved.ensures.items))

pub returns-clause-ok : goal.returns-clause-ok
returns-clause-ok c =
    let e : Exchange = record {
      event = c.in_ok-event.event;
      reply = c.args.latest.now.reply;
      below = c.args.below;
    } in
    rw (← c.self.view_is)
    (chained_added _ _ e _ _ (rw c.reserve.ensures.items at c.push_reserved.ensures.items)
    (omega (arith, c.len-number.ensures, ap length c.reserve.ensures.items))
    (exchange_same e c.args.latest.now c.in_ok-event.ensures.ok refl))
