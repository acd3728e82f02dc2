-- The earlier list is left where the operation is the first.
use Rattle.std.proofs.Common.{refl}
use Rattle.std.proofs.lemmas.Bool.{eq-eqb, ne_eqb}
use Rattle.hp_schedules.specs.Openings.{after_cancel}
use Rattle.hp_states.proofs.Numbered.{made_empty, other_cancel, same_cancel}
use Rattle.hp_states.proofs.openings.Openings.after_cancel.Goals as goal

pub returns-in_default-entry : goal.returns-in_default-entry
returns-in_default-entry c =
    made_empty (after_cancel c.args.cancelled) c.args.self.now c.in-Some.number c.empty.result refl
    c.in-Some.is (rw c.in_default-entry.is at c.entry.ensures.none) c.empty.ensures

pub returns-then-entry-cancelled : goal.returns-then-entry-cancelled
returns-then-entry-cancelled c =
    same_cancel c.args.self.now c.args.cancelled c.in-Some-entry.entry.now c.in-Some.is
    (rw c.in-Some-entry.is at c.entry.ensures.some) (eq-eqb _ _ c.if-entry-cancelled.true)

pub returns-else-entry-cancelled : goal.returns-else-entry-cancelled
returns-else-entry-cancelled c =
    other_cancel c.args.self.now c.args.cancelled c.in-Some-entry.entry.now c.in-Some.is
    (rw c.in-Some-entry.is at c.entry.ensures.some) _ (ne_eqb _ _ c.if-entry-cancelled.false)
    c.empty-else-entry-cancelled.ensures
