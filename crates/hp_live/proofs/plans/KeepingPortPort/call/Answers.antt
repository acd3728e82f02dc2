use Rattle.std.proofs.Common.{refl, rules, ◌∷◌, []}
use Rattle.hp_history.specs.Course.{receipt_for}
use Rattle.hp_machine.proofs.MachineCalls.{called_is_given, called_once}
use Rattle.hp_live.proofs.Kept.{one_kept}
use Rattle.hp_live.proofs.plans.KeepingPortPort.call.Goals as goal

pub returns-in-Ok-clause-ok : goal.returns-in-Ok-clause-ok
returns-in-Ok-clause-ok c =
    record {
      receipt = receipt_for c.args.event.now c.in-Ok.answer;
      replied = refl;
      given =
          called_is_given c.args.self.now.machine.now c.answer.new.self c.args.self.now.cpu
          c.args.event.now (receipt_for c.args.event.now c.in-Ok.answer) c.args.self.now.fault
          c.in-Ok.ensures.ok;
      made = (
        search rules,
        search rules,
        search rules,
        called_once c.args.self.now.machine.now c.answer.new.self c.args.self.now.cpu c.args.event.now
            (receipt_for c.args.event.now c.in-Ok.answer) c.in-Ok.answer c.in-Ok.ensures.full
            c.in-Ok.ensures.ok,
        one_kept c.args.self.now.calls.now.items c.args.self.now.calls.now.items
            c.keep-is_kept.new.calls.items (receipt_for c.args.event.now c.in-Ok.answer ∷ [])
            c.args.self.now.is_lost c.is_lost-self.result
            c.keep-is_kept.result c.is_lost-self.ensures refl c.keep-is_kept.ensures,
      );
    }
