-- The list of a number was made by the entry before it.
use Rattle.std.proofs.Common.{◌-◌, Bor, arith}
use Rattle.hp_states.specs.Numbered.{entry_below, in_front}
use Rattle.hp_states.specs.declared.openings.OpeningEntry.{OpeningEntry}
use Rattle.hp_states.proofs.Numberings.{entry_read, first_empty, none_read}
use Rattle.hp_states.proofs.openings.Openings.entry.Goals as goal

pub returns-then-number-eq0-clause-none : goal.returns-then-number-eq0-clause-none
returns-then-number-eq0-clause-none c =
    λ os h. first_empty entry_below in_front c.self.inside.entries.items c.args.number os
    (omega (arith, c.if-number-eq0.true)) (rw c.self.view_is h)

pub returns-clause-some : goal.returns-clause-some
returns-clause-some c =
    entry_read entry_below in_front (λ (e : Bor OpeningEntry). e.now) _ _ _ c.args.number (c.args.number - 1)
    c.get.result c.self.invariant c.self.view_is c.as_slice-entries.ensures.value
    (omega (arith, c.if-number-eq0.false)) c.get.ensures.lookup.0 c.get.ensures.lookup.1

pub returns-clause-none : goal.returns-clause-none
returns-clause-none c =
    none_read entry_below in_front _ _ _ c.args.number (c.args.number - 1) c.get.result c.self.view_is
    c.as_slice-entries.ensures.value (omega (arith, c.if-number-eq0.false)) c.get.ensures.lookup.0
