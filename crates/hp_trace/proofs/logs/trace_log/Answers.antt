use Rattle.hp_scenario.specs.Seen.{scenario_seen}
use Rattle.hp_trace.proofs.RunsLogged.{run_logged}
use Rattle.hp_trace.proofs.logs.trace_log.Goals as goal

pub returns : goal.returns
returns c =
    run_logged (scenario_seen c.args.scenario.now) c.whole_view.result c.as_slice.result.now
    c.in_ok-rows.rows c.draw_lines.new.rows c.in_ok-machine.machine c.draw_lines.new.machine
    c.block_size.result c.into_events.result.items c.in_ok-machine.ensures c.as_slice.ensures
    c.in_ok-rows.ensures c.in_ok-draw_lines.ensures c.block_size.ensures.is c.into_events.ensures
