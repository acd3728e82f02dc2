use Rattle.std.proofs.Common.{refl, rules}
use Rattle.hp_machine.proofs.MachineCalls.{called_is_given, called_once}
use Rattle.hp_trace.proofs.PlansTraced.{step_traced}
use Rattle.hp_trace.proofs.plans.TracePortPort.call.Goals as goal

pub returns-in-Ok-clause-ok : goal.returns-in-Ok-clause-ok
returns-in-Ok-clause-ok c =
    let calls =
    called_once c.args.self.now.machine.now c.call.new.self c.args.self.now.cpu c.args.event.now
    c.in-Ok.receipt c.in-Ok.receipt c.in-Ok.ensures.full c.in-Ok.ensures.ok in
    record {
      receipt = c.in-Ok.receipt;
      replied = refl;
      given =
          called_is_given c.args.self.now.machine.now c.call.new.self c.args.self.now.cpu c.args.event.now
          c.in-Ok.receipt c.args.self.now.fault c.in-Ok.ensures.ok;
      made = (
        search rules,
        search rules,
        search rules,
        step_traced c.args.self.now.cpu c.args.self.now.machine.now c.call.new.self c.in-Ok.receipt
            c.args.self.now.rows.now c.draw_step-is_drawn.new.rows c.args.self.now.is_lost
            c.is_lost-self.result c.draw_step-is_drawn.result
            c.is_lost-self.ensures calls c.draw_step-is_drawn.ensures,
      );
    }
