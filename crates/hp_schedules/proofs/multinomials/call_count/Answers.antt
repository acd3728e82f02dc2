-- One call for each line, where each line is one.
use Rattle.std.proofs.Common.{sym, ◌∙◌}
use Rattle.hp_schedules.proofs.Interleavings.{calls_told, with_plan}
use Rattle.hp_schedules.proofs.multinomials.call_count.Goals as goal

pub returns-then-not-hold_no_plan : goal.returns-then-not-hold_no_plan
returns-then-not-hold_no_plan c =
    λ one. absurd (with_plan c.args.scripts.now c.hold_no_plan.result c.hold_no_plan.ensures
    c.if-not-hold_no_plan.true one)

pub returns : goal.returns
returns c =
    calls_told c.args.scripts.now c.as_slice.result.now c.total.result
    (sym c.hold_no_plan.ensures ∙ c.if-not-hold_no_plan.false)
    (c.as_slice.ensures.value ∙ c.in_ok-lengths.ensures) c.total.ensures.some c.total.ensures.none
