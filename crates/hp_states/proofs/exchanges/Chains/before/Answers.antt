-- The entry stands on the exchanges before its last.
use Rattle.std.proofs.Common.{ap, arith, length}
use Rattle.std.proofs.lemmas.Option.{slice_get_within}
use Rattle.hp_states.specs.Exchanges.{at_end, exchange_below}
use Rattle.hp_states.proofs.Exchanged.{before_entry, before_none}
use Rattle.hp_states.proofs.Numberings.{lists_many}
use Rattle.hp_states.proofs.exchanges.Chains.before.Goals as goal

pub returns-in-Some-clause-before : goal.returns-in-Some-clause-before
returns-in-Some-clause-before c =
    before_entry c.args.self.now c.args.number c.in-Some.entry.now c.in-Some.ensures.some

pub returns-in-Some-clause-within : goal.returns-in-Some-clause-within
returns-in-Some-clause-within c =
    slice_get_within c.args.self.now c.in-Some.entry.now.below c.in-Some.ensures.some.0
    c.in-Some.ensures.some.1

pub returns-in-None-clause-before : goal.returns-in-None-clause-before
returns-in-None-clause-before c =
    before_none c.args.self.now c.args.number 0 c.in-None.ensures.none

pub returns-in-None-clause-within : goal.returns-in-None-clause-within
returns-in-None-clause-within c =
    omega (arith, lists_many exchange_below at_end c.self.inside.entries.items, ap length c.self.view_is)
