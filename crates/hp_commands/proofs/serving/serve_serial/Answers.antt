use Rattle.std.proofs.lemmas.Result.{err_from_is_err_and}
use Rattle.hp_commands.specs.declared.commands.Command.TheVariants.{Serial}
use Rattle.hp_commands.proofs.Served.{fault_of_read, read_fault}
use Rattle.hp_commands.proofs.serving.serve_serial.Goals as goal

pub returns-in_err-input-clause-err : goal.returns-in_err-input-clause-err
returns-in_err-input-clause-err g c =
    let p = err_from_is_err_and c.from_residual.result c.from_residual.ensures.1 in
    rw (p.1, p.2) (read_fault Serial _ _ _ c.in_err-input.field-0.0 c.in_err-input.ensures.err)

pub returns-in_err-text-clause-err : goal.returns-in_err-text-clause-err
returns-in_err-text-clause-err g c =
    let p = err_from_is_err_and c.from_residual-in_err-text.result c.from_residual-in_err-text.ensures.1 in
    rw (p.1, p.2) (fault_of_read Serial _ _ _ _ _ _ c.in_ok-input.ensures.bytes c.in_ok-input.ensures.end
    c.in_err-text.ensures.err)
