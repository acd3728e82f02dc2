use Rattle.std.proofs.Common.{◌≡◌, ℕ, ◌+◌, List, Some, Err, sym, ap, ◌∙◌}
use Rattle.std.proofs.lemmas.List.FromFn.{length-map-range_with_len}
use Rattle.hp_scenario.specs.Scenario.{ScenarioValue}
use Rattle.hp_scenario.specs.Scripts.{first_unfit, script_of, scripts_of}
use Rattle.hp_scenario.specs.Seen.{scenario_seen}
use Rattle.hp_scenario.specs.declared.fault.ScenarioFault.TheVariants.{NotForRun}
use Rattle.hp_scenario.specs.declared.lines.Line.{Line}
use Rattle.hp_scenario.proofs.ScriptLists.{all_fit, all_for_run}
use Rattle.hp_scenario.proofs.scenario.Scenario.scripts.Goals as goal

refused : (s : ScenarioValue) (cpus : ℕ) (lines : List Line) (at : ℕ) → cpus ≡ s.layout.cpus
    → lines ≡ s.lines → Some at ≡ first_unfit cpus lines → scripts_of s ≡ Err (NotForRun (at + 1))
unfolding scripts_of
refused s cpus lines at count same found = rw (← count, ← same, ← found)

pub returns-in-Some-clause-scripts : goal.returns-in-Some-clause-scripts
returns-in-Some-clause-scripts c =
    refused (scenario_seen c.args.self) c.cpus-cpus.result c.deref.result.now c.in-Some.index
    c.cpus-cpus.ensures.is (c.deref.ensures.value ∙ c.into_vec-lines.ensures) c.in-Some.ensures

pub dealt-requires : goal.dealt-requires
dealt-requires c =
    all_fit c.cpus-cpus.result c.into_vec-lines.result.items (ap (λ (lines : List Line).
    first_unfit c.cpus-cpus.result lines) (sym c.deref.ensures.value) ∙ sym c.in_default.ensures)

pub returns-clause-count : goal.returns-clause-count
returns-clause-count c =
    rw c.in_ok-dealt.ensures (rw (length-map-range_with_len (script_of c.into_vec-lines.result.items) 0
    c.cpus-cpus.result) c.cpus-cpus.ensures.is)

pub returns-clause-run : goal.returns-clause-run
returns-clause-run c =
    let all =
    all_fit c.cpus-cpus.result c.into_vec-lines.result.items (ap (λ (lines : List Line).
    first_unfit c.cpus-cpus.result lines) (sym c.deref.ensures.value) ∙ sym c.in_default.ensures) in
    rw c.in_ok-dealt.ensures (all_for_run c.cpus-cpus.result c.into_vec-lines.result.items all)
