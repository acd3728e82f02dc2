-- What the search for its aim found.
use Rattle.std.proofs.Common.{Vec, Global}
use Rattle.std.specs.Prelude.{option_map}
use Rattle.std.proofs.lemmas.Result.{IfErr-weaker, IfOk-weaker}
use Rattle.hp_units.specs.declared.Cpu.{Cpu}
use Rattle.hp_explore.specs.Settings.{setting}
use Rattle.hp_explore.proofs.Budgets.{first_within, pass_cause}
use Rattle.hp_explore.proofs.within.first_within.Goals as goal

pub returns-clause-ok : goal.returns-clause-ok
returns-clause-ok g c =
    let at = setting c.args.machine.now c.args.scripts.now in
    let became = c.first_sought.ensures.becomes in
    IfOk-weaker c.first_sought.result _ _
    (λ found first. first_within at c.args.wanted.now c.first_sought.new.aim.wanted.now c.args.budget
    c.first_sought.new.aim.budget (option_map (λ (s : Vec Cpu Global). s.items) found) became.0 became.1
    first) c.first_sought.ensures.ok

pub returns-clause-err : goal.returns-clause-err
returns-clause-err g c =
    let at = setting c.args.machine.now c.args.scripts.now in
    let became = c.first_sought.ensures.becomes in
    IfErr-weaker c.first_sought.result _ _
    (λ fault cause. pass_cause at c.args.wanted.now c.first_sought.new.aim.wanted.now c.args.budget
    c.first_sought.new.aim.budget fault became.0 became.1 cause) c.first_sought.ensures.err
