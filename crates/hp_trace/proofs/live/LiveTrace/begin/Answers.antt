use Rattle.hp_scenario.specs.Seen.{scenario_seen}
use Rattle.hp_trace.proofs.LivesTraced.{begun_after}
use Rattle.hp_trace.proofs.live.LiveTrace.begin.Goals as goal

pub returns : goal.returns
returns c =
    begun_after c.args.view (scenario_seen c.args.scenario.now) c.as_slice.result.now
    c.in_ok-machine.machine c.trace_lines.new.machine _ _ c.in_ok-rows.rows c.as_slice.ensures
    c.in_ok-machine.ensures c.in_ok-trace_lines.ensures c.in_ok-rows.ensures
