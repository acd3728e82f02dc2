use Rattle.std.proofs.Common.{ℕ, refl, rules}
use Rattle.std.proofs.lemmas.List.{append-nil}
use Rattle.hp_units.specs.Receipts.{receipts_of}
use Rattle.hp_history.specs.Course.{receipt_for}
use Rattle.hp_machine.specs.Machine.{MachineValue}
use Rattle.hp_machine.specs.Names.{Reply}
use Rattle.hp_machine.proofs.MachineCalls.{called_is_given, called_once, cause_of}
use Rattle.hp_machine.proofs.machine_port.MachinePortPort.call.Goals as goal

pub returns-in-Ok-clause-ok : goal.returns-in-Ok-clause-ok
returns-in-Ok-clause-ok g c =
    let value = g.M.CallMachine.machine in
    let answer : ℕ × Reply = (c.in-Ok.field-0-0, c.in-Ok.reply) in
    record {
      receipt = receipt_for c.args.event.now answer;
      replied = refl;
      given =
          called_is_given (value c.args.self.now.machine.now) (value c.answer.new.self) c.args.self.now.cpu
          c.args.event.now (receipt_for c.args.event.now answer) c.args.self.now.fault c.in-Ok.ensures.ok;
      made = (
        search rules,
        search rules,
        called_once (value c.args.self.now.machine.now) (value c.answer.new.self) c.args.self.now.cpu
            c.args.event.now (receipt_for c.args.event.now answer) answer c.in-Ok.ensures.full
            c.in-Ok.ensures.ok,
      );
    }

pub returns-in-Err-clause-leaves : goal.returns-in-Err-clause-leaves
returns-in-Err-clause-leaves g c = (
  search rules,
  search rules,
  c.in-Err.ensures.err,
  cause_of (g.M.CallMachine.machine c.args.self.now.machine.now) c.in-Err.fault c.in-Err.ensures.full,
)

pub returns-in-Err-clause-err : goal.returns-in-Err-clause-err
returns-in-Err-clause-err g c =
    let old : MachineValue = g.M.CallMachine.machine c.args.self.now.machine.now in
    rw (c.in-Err.ensures.err, append-nil (receipts_of c.args.self.now.cpu old.history))
