use Rattle.std.proofs.Common.{◌≡◌, Some, ap}
use Rattle.std.proofs.lemmas.Result.{err_from_is_err_and, IfErr-weaker, IfOk-weaker}
use Rattle.hp_machine.specs.Machine.{MachineValue}
use Rattle.hp_scenario.specs.Seen.{scenario_seen}
use Rattle.hp_commands.specs.Faults.{IsFaultOf, IsWorkFault}
use Rattle.hp_commands.specs.declared.commands.Command.TheVariants.{Run}
use Rattle.hp_commands.proofs.Ran.{run_is, unfit, work_fails_at}
use Rattle.hp_commands.proofs.Served.{scenario_fault}
use Rattle.hp_commands.proofs.runs.work_off.Goals as goal

pub returns-in_err-scripts-clause-err : goal.returns-in_err-scripts-clause-err
returns-in_err-scripts-clause-err g c =
    let p =
    err_from_is_err_and c.from_residual-in_err-scripts.result c.from_residual-in_err-scripts.ensures.1 in
    rw (p.1, p.2) (unfit c.args.input.now (scenario_seen c.in_ok-scenario.scenario) c.in_err-scripts.field-0.0
    c.in_ok-scenario.ensures c.in_err-scripts.ensures.scripts)

pub returns-clause-err : goal.returns-clause-err
returns-clause-err g c =
    let m = c.in_ok-machine.machine in
    let s = scenario_seen c.in_ok-scenario.scenario in
    let booted : m.layout ≡ s.layout = ap (λ (x : MachineValue). x.layout) c.in_ok-machine.ensures in
    let scripts = c.in_ok-scripts.scripts.items in
    IfErr-weaker c.run_scripts.result (IsWorkFault m.layout scripts) (IsFaultOf Run (Some c.args.input.now) ⊥
    ⊥) (λ fault h. work_fails_at c.args.input.now s m.layout scripts fault booted c.in_ok-scenario.ensures
    c.in_ok-scripts.ensures.scripts h) c.run_scripts.ensures.err

pub returns-in_err-scenario-clause-err : goal.returns-in_err-scenario-clause-err
returns-in_err-scenario-clause-err g c =
    let p = err_from_is_err_and c.from_residual.result c.from_residual.ensures.1 in
    rw (p.1, p.2) (scenario_fault Run c.args.input.now c.in_err-scenario.field-0.0 c.in_err-scenario.ensures)

pub returns-clause-ok : goal.returns-clause-ok
returns-clause-ok g c =
    let m = c.in_ok-machine.machine in
    let s = scenario_seen c.in_ok-scenario.scenario in
    let booted : m.layout ≡ s.layout = ap (λ (x : MachineValue). x.layout) c.in_ok-machine.ensures in
    let scripts = c.in_ok-scripts.scripts.items in
    IfOk-weaker c.run_scripts.result _ _ (λ worked h. run_is c.args.input.now s scripts worked.ends.items
    worked.closed.volumes.items worked.closed.machine worked.closed.records c.in_ok-scenario.ensures
    c.in_ok-scripts.ensures.scripts c.in_ok-scripts.ensures.count h)
    (rw booted at c.run_scripts.ensures.ok)
