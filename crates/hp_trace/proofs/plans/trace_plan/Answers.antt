use Rattle.std.proofs.lemmas.Result.{on_ok_weaker}
use Rattle.hp_trace.proofs.PlansTraced.{plan_added}
use Rattle.hp_trace.proofs.plans.trace_plan.Goals as goal

pub returns-in-Ok : goal.returns-in-Ok
returns-in-Ok c =
    on_ok_weaker c.say_end.result
    (λ said. plan_added c.args.machine.now c.drive.new.machine c.args.cpu c.args.turns c.args.plan.now
    c.in_ok-plan.plan c.in-Ok.end c.args.asked.now c.args.rows.now c.draw.new.self c.drive.new.rows
    c.say_end.new.rows
    c.in_ok-plan.ensures c.in_ok-draw.ensures c.in-Ok.ensures said) c.say_end.ensures
