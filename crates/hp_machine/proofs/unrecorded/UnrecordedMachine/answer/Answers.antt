-- A call keeps what every machine keeps, whether it was answered or not.
use Rattle.std.proofs.Common.{sym, ◌∙◌}
use Rattle.hp_machine.proofs.Machines.{call_kept}
use Rattle.hp_machine.proofs.unrecorded.UnrecordedMachine.answer.Goals as goal

pub invariant_of-self : goal.invariant_of-self
invariant_of-self c =
    call_kept c.self.inside.journal c.answer.new.self c.args.cpu c.args.event.now c.answer.result
    c.self.invariant (rw c.self.view_is (sym c.is_full.ensures ∙ c.if-is_full.false)) c.answer.ensures.err
    c.answer.ensures.ok
