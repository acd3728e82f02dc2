use Rattle.hp_scenario.specs.Seen.{scenario_seen}
use Rattle.hp_trace.proofs.LinesTraced.{scenario_traced}
use Rattle.hp_trace.proofs.lines.trace_scenario.Goals as goal

pub returns : goal.returns
returns c =
    scenario_traced c.args.form c.args.view (scenario_seen c.args.scenario.now) c.as_slice-all.result.now
    c.split_at.result.0.now c.split_at.result.1.now c.skipped-before.result _ _ c.in_ok-rows.rows
    c.trace_lines-2.new.rows c.in_ok-machine.machine c.trace_lines.new.machine c.trace_lines-2.new.machine
    c.as_slice-all.ensures c.skipped-before.ensures.is c.split_at.ensures.front c.split_at.ensures.back
    c.in_ok-machine.ensures c.in_ok-trace_lines.ensures c.in_ok-rows.ensures c.in_ok-trace_lines-2.ensures
