-- The chain of a number was made by the entry before it.
use Rattle.std.proofs.Common.{◌-◌, Bor, arith}
use Rattle.hp_states.specs.Exchanges.{at_end, exchange_below}
use Rattle.hp_states.specs.declared.exchanges.Exchange.{Exchange}
use Rattle.hp_states.proofs.Numberings.{entry_read, first_empty, none_read}
use Rattle.hp_states.proofs.exchanges.Chains.entry.Goals as goal

pub returns-then-number-eq0-clause-none : goal.returns-then-number-eq0-clause-none
returns-then-number-eq0-clause-none c =
    λ xs h. first_empty exchange_below at_end c.self.inside.entries.items c.args.number xs
    (omega (arith, c.if-number-eq0.true)) (rw c.self.view_is h)

pub returns-clause-some : goal.returns-clause-some
returns-clause-some c =
    entry_read exchange_below at_end (λ (e : Bor Exchange). e.now) _ _ _ c.args.number (c.args.number - 1)
    c.get.result c.self.invariant c.self.view_is c.as_slice-entries.ensures.value
    (omega (arith, c.if-number-eq0.false)) c.get.ensures.lookup.0 c.get.ensures.lookup.1

pub returns-clause-none : goal.returns-clause-none
returns-clause-none c =
    none_read exchange_below at_end _ _ _ c.args.number (c.args.number - 1) c.get.result c.self.view_is
    c.as_slice-entries.ensures.value (omega (arith, c.if-number-eq0.false)) c.get.ensures.lookup.0
