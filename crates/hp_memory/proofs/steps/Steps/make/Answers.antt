-- The step is made, and its record is the last.
use Rattle.std.proofs.Common.{subst}
use Rattle.hp_memory.specs.Steps.{IsStepped, StepsValue}
use Rattle.hp_memory.proofs.Made.{made, value_with}
use Rattle.hp_memory.proofs.steps.Steps.make.Goals as goal

pub returns-clause-ok : goal.returns-clause-ok
returns-clause-ok c =
    subst (λ (old : StepsValue). IsStepped old c.args.serial c.args.cpu c.args.event.now c.len-mark.result
    (value_with c.step.new.self c.step.new.tape.deltas c.push_reserved.new.self.items)) c.self.view_is
    (made c.self.inside.memory c.step.new.self c.self.inside.tape.deltas c.step.new.tape.deltas _
    c.args.serial c.args.cpu c.len-mark.result c.args.event.now c.in_ok-recorded.recorded
    c.in_ok-reply.reply
    c.self.inside.records.items c.reserve.new.self.items c.push_reserved.new.self.items
    c.is_placed.ensures.placed c.step.ensures.layout c.in_ok-reply.ensures.state c.in_ok-reply.ensures.reply
    c.in_ok-reply.ensures.noted
    c.len-mark.ensures c.in_ok-recorded.ensures.ok
    c.in_ok-reserve.ensures.items c.push_reserved.ensures.items)
