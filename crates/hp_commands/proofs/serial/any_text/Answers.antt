use Rattle.std.proofs.lemmas.Result.{err_from_is_err_and}
use Rattle.hp_commands.specs.declared.commands.Command.TheVariants.{Serial}
use Rattle.hp_commands.proofs.Served.{scenario_fault}
use Rattle.hp_commands.proofs.serial.any_text.Goals as goal

pub returns-in_err-scenario-clause-err : goal.returns-in_err-scenario-clause-err
returns-in_err-scenario-clause-err c =
    let p = err_from_is_err_and c.from_residual.result c.from_residual.ensures.1 in
    rw (p.1, p.2) (scenario_fault Serial _ _ c.in_err-scenario.ensures)

pub returns-in_err-scenario_text-clause-err : goal.returns-in_err-scenario_text-clause-err
returns-in_err-scenario_text-clause-err c =
    let p =
    err_from_is_err_and c.from_residual-in_err-scenario_text.result
    c.from_residual-in_err-scenario_text.ensures.1 in
    rw (p.1, p.2) tt

pub returns-clause-ok : goal.returns-clause-ok
returns-clause-ok c = c.in_ok-scenario_text.ensures c.args.input.items c.in_ok-scenario.ensures
