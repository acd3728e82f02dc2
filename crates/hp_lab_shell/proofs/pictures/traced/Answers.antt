use Rattle.std.proofs.Common.{refl, string_bytes}
use Rattle.hp_scenario.specs.Seen.{scenario_seen}
use Rattle.hp_trace.specs.Traces.{IsJoinedTraceOf}
use Rattle.hp_lab_shell.proofs.Plainly.{in_plain}
use Rattle.hp_lab_shell.proofs.pictures.traced.Goals as goal

pub returns-clause-ok : goal.returns-clause-ok
returns-clause-ok c = (
  in_plain (λ s. IsJoinedTraceOf c.args.view s (string_bytes c.in_ok-text.text)) c.args.input.now
      (scenario_seen c.in_ok-scenario.scenario) c.in_ok-scenario.ensures.ok c.in_ok-text.ensures,
  refl,
)
