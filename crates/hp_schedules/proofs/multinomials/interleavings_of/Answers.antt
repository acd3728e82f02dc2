-- Where each line is one call and the lengths fit, the coefficient is the number.
use Rattle.std.proofs.Common.{sym, ◌∙◌}
use Rattle.hp_schedules.proofs.Interleavings.{with_plan}
use Rattle.hp_schedules.proofs.multinomials.interleavings_of.Goals as goal

pub returns-then-not-hold_no_plan : goal.returns-then-not-hold_no_plan
returns-then-not-hold_no_plan c =
    λ one. absurd (with_plan c.args.scripts.now c.hold_no_plan.result c.hold_no_plan.ensures
    c.if-not-hold_no_plan.true one)

pub returns : goal.returns
returns c = (
  sym c.hold_no_plan.ensures ∙ c.if-not-hold_no_plan.false,
  λ m is. c.in-None.ensures.none m (rw (c.as_slice-2.ensures.value, c.in_ok-lengths.ensures) is),
)
