use Rattle.std.proofs.Common.{ℕ, drop, length, take}
use Rattle.std.proofs.lemmas.Result.{err_from_is_err_and}
use Rattle.hp_scenario.specs.Scenario.{ScenarioValue}
use Rattle.hp_scenario.specs.Seen.{scenario_seen}
use Rattle.hp_scripts.specs.Checks.{IsUnfit}
use Rattle.hp_scripts.specs.Starts.{HasNoStart}
use Rattle.hp_scripts.specs.declared.start_fault.StartFault.{StartFault}
use Rattle.hp_scripts.specs.declared.start_fault.StartFault.TheVariants.{NotForScript, OutOfMemory}
use Rattle.hp_scripts.proofs.starts.start_of.Goals as goal

no_start : (s : ScenarioValue) (setup : ℕ) (fault : StartFault)
    → IsUnfit s.layout.cpus (length (take setup s.lines)) (drop setup s.lines) fault
    → HasNoStart s setup fault
no_start s setup (NotForScript place why) h = h
no_start s setup OutOfMemory h = absurd h

pub returns-in_err-check_lines-clause-err : goal.returns-in_err-check_lines-clause-err
returns-in_err-check_lines-clause-err c =
    let p = err_from_is_err_and c.from_residual.result c.from_residual.ensures.1 in
    rw (p.1, p.2)
    (no_start (scenario_seen c.args.scenario.now) c.args.setup _
    (rw (c.cpus-cpus.ensures.is, c.front_of-before.ensures, c.rest_of-after.ensures, c.as_slice-lines.ensures)
    at c.in_err-check_lines.ensures.err))

pub returns-clause-ok : goal.returns-clause-ok
returns-clause-ok c = record {
  fit = rw (c.cpus-cpus.ensures.is, c.rest_of-after.ensures, c.as_slice-lines.ensures)
      at c.in_ok-check_lines.ensures.ok;
  begun = rw (
    c.front_of-before.ensures,
    c.rest_of-after.ensures,
    c.as_slice-lines.ensures,
    c.deref.ensures.value,
    c.in_ok-sources.ensures,
  ) at c.in_ok-start_after.ensures.is;
}
