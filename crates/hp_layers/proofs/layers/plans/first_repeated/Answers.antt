-- One more item is looked at.
use Rattle.std.proofs.Common.{◌<◌, true, false, length, sym, ◌∙◌, arith}
use Rattle.hp_plain.proofs.Scans.{repeated-step}
use Rattle.hp_layers.proofs.layers.plans.first_repeated.Goals as goal

pub returns-then-stands_in : goal.returns-then-stands_in
returns-then-stands_in c =
    let plan = c.args.plan.now in
    let n = c.loop-number.number in
    let d = c.index-plan-number.result in
    let below : n < length plan = omega arith in
    sym (c.loop-number.invariant
    ∙ repeated-step plan n d true below (sym c.if-stands_in.true ∙ c.stands_in.ensures))

pub loop-number-preserved : goal.loop-number-preserved
loop-number-preserved c =
    let plan = c.args.plan.now in
    let n = c.loop-number.number in
    let d = c.index-plan-number.result in
    let below : n < length plan = omega arith in
    c.loop-number.invariant
    ∙ repeated-step plan n d false below (sym c.if-stands_in.false ∙ c.stands_in.ensures)
