-- A call is an answer, with a copy of the event in its receipt.
use Rattle.hp_machine.proofs.Machines.{called_copy}
use Rattle.hp_machine.proofs.machine.Machine.call.Goals as goal

pub returns-in-Ok-answer-clause-ok : goal.returns-in-Ok-answer-clause-ok
returns-in-Ok-answer-clause-ok c =
    called_copy c.args.self.now c.answer.new.self c.args.cpu _ c.args.event.now c.in-Ok.asked _
    c.in-Ok.ensures.ok c.in-Ok-answer.ensures.ok
