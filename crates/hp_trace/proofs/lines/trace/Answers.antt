use Rattle.std.proofs.Common.{string_bytes}
use Rattle.std.proofs.lemmas.Result.{IfOk-weaker}
use Rattle.hp_scenario.specs.Seen.{scenario_seen}
use Rattle.hp_trace.proofs.RowsJoined.{trace_joined}
use Rattle.hp_trace.proofs.lines.trace.Goals as goal

pub returns : goal.returns
returns c =
    IfOk-weaker c.into_joined_text.result _ _
    (λ text ends. trace_joined c.args.view (scenario_seen c.args.scenario.now) c.in_ok-rows.rows
    (string_bytes text) c.in_ok-rows.ensures ends) c.into_joined_text.ensures
