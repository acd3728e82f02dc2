-- Where another operation is the first, or the list is empty, nothing is left.
use Rattle.std.proofs.Common.{refl}
use Rattle.std.proofs.lemmas.Bool.{eq-eqb, ne_eqb}
use Rattle.hp_schedules.specs.Openings.{after_work}
use Rattle.hp_states.proofs.Numbered.{made_empty, other_work, same_work}
use Rattle.hp_states.proofs.openings.Openings.after_work.Goals as goal

pub returns-in_default-entry : goal.returns-in_default-entry
returns-in_default-entry c =
    made_empty (after_work c.args.worked) c.args.self.now c.in-Some.number c.empty.result refl c.in-Some.is
    (rw c.in_default-entry.is at c.entry.ensures.none) c.empty.ensures

pub returns-then-entry-worked : goal.returns-then-entry-worked
returns-then-entry-worked c =
    same_work c.args.self.now c.args.worked c.in-Some-entry.entry.now c.in-Some.is
    (rw c.in-Some-entry.is at c.entry.ensures.some) (eq-eqb _ _ c.if-entry-worked.true)

pub returns-else-entry-worked : goal.returns-else-entry-worked
returns-else-entry-worked c =
    other_work c.args.self.now c.args.worked c.in-Some-entry.entry.now c.in-Some.is
    (rw c.in-Some-entry.is at c.entry.ensures.some) _ (ne_eqb _ _ c.if-entry-worked.false)
    c.empty-else-entry-worked.ensures
