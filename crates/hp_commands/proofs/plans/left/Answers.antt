use Rattle.std.proofs.Common.{◌∙◌, Some, sym}
use Rattle.hp_machine.specs.MachinePorts.{HasCause}
use Rattle.hp_commands.proofs.Written.{left_unasked}
use Rattle.hp_commands.proofs.plans.left.Goals.{then-is_full, else-is_full}
use Rattle.hp_commands.proofs.plans.left.Goals as goal

pub returns : goal.returns
returns c =
    let cause : HasCause (Some c.if-is_full.fault) c.args.machine.now = elim c.if-is_full.branch [
      | then-is_full w ↦ rw w.fault-is (sym c.is_full.ensures ∙ w.if-is_full.true)
      | else-is_full w ↦ rw w.fault-is (sym c.is_full.ensures ∙ w.if-is_full.false)
    ] in
    λ cpu turns plan. left_unasked c.args.machine.now cpu turns plan c.if-is_full.fault cause
