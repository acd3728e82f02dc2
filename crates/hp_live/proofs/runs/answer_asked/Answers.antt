use Rattle.std.proofs.lemmas.Result.{on_err_weaker, on_ok_weaker}
use Rattle.hp_live.proofs.Told.{event_done, file_done, not_taken_done, on_err, plan_answered, plan_done, seal_done}
use Rattle.hp_live.proofs.runs.answer_asked.Goals as goal

pub returns-in-Event-clause-err : goal.returns-in-Event-clause-err
returns-in-Event-clause-err c =
    on_err c.say.result
    (rw c.in-Event.is (event_done _ _ _ _ _ c.say.new.self.did c.say.ensures.did c.call-did.ensures))

pub returns-in-Plan-clause-ok : goal.returns-in-Plan-clause-ok
returns-in-Plan-clause-ok c =
    on_ok_weaker c.answer_plan.result
    (λ t. rw c.in-Plan.is (plan_answered _ _ _ _ _ _ t)) c.answer_plan.ensures.ok

pub returns-in-Plan-clause-err : goal.returns-in-Plan-clause-err
returns-in-Plan-clause-err c =
    on_err_weaker c.answer_plan.result
    (λ d. rw c.in-Plan.is (plan_done _ _ _ _ _ c.answer_plan.new.out.did d)) c.answer_plan.ensures.err

pub returns-in-NotTaken-clause-err : goal.returns-in-NotTaken-clause-err
returns-in-NotTaken-clause-err c =
    on_err c.say-in-NotTaken.result
    (rw c.in-NotTaken.is (not_taken_done c.args.machine.now c.args.cpu c.in-NotTaken.fault
    c.say-in-NotTaken.new.self.did))

pub returns-in-Cat-clause-err : goal.returns-in-Cat-clause-err
returns-in-Cat-clause-err c =
    on_err c.answer_file.result
    (rw c.in-Cat.is (file_done c.args.machine.now c.args.cpu c.in-Cat.path.now c.answer_file.new.out.did))

pub returns-in-Seal-clause-err : goal.returns-in-Seal-clause-err
returns-in-Seal-clause-err c =
    on_err c.say-in-Seal.result
    (rw c.in-Seal.is (seal_done c.args.machine.now c.seal-count.new.self c.args.cpu
    c.say-in-Seal.new.self.did c.seal-count.ensures.goes_on))
