use Rattle.std.proofs.lemmas.Result.{on_ok_weaker}
use Rattle.hp_live.proofs.Kept.{plan_told}
use Rattle.hp_live.proofs.runs.answer_plan.Goals as goal

pub returns-clause-ok : goal.returns-clause-ok
returns-clause-ok c =
    on_ok_weaker c.say.result
    (λ is. plan_told c.args.machine.now c.run_to_end.new.machine c.args.cpu c.args.turns c.args.plan.now
    c.in_ok-end.end c.run_to_end.new.out c.say.new.self c.in_ok-end.ensures.ok is) c.say.ensures.ok
